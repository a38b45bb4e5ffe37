-- What follows from the relations of the outside over several calls.
use Rattle.std.proofs.Common.{◌≡◌, ℕ, ◌≤◌, List, [], ◌++◌, Some, unwrap_or, refl, ◌∙◌, ap, inl, inr, append_assoc, length, length-append, arith}
use Rattle.std.proofs.Math.Seq.{take-append-add}
use Rattle.std.specs.Io.{StartsWith}
use Rattle.std.proofs.lemmas.Grind.{common_steps}
use Rattle.colo_base.specs.Count.{Increased}
use Rattle.colo_base.specs.Shelf.{ShelfState, ChangesOnly, bytes_of, Adds, AddsPart}
use Rattle.colo_base.specs.Link.{LinkState, LinkGoesOn}
use Rattle.colo_base.specs.Sink.{SinkState, SinkGoesOn}

-- a count that increased later increased over the whole
pub increased_before : (a b c : ℕ) → a ≤ b → Increased b c → Increased a c
increased_before a b c le rose = omega arith

-- a count that increased earlier increased over the whole
pub increased_after : (a b c : ℕ) → Increased a b → b ≤ c → Increased a c
increased_after a b c rose le = omega arith

-- what didn't change changed only what it may
pub changes_none : (P : List ℕ → Type 0) (s : ShelfState) → ChangesOnly P s s
changes_none P s =
    record {
      observable = refl;
      fetch_faults = λ name. omega arith;
      write_faults = λ name. omega arith;
      others = λ observable name out. refl;
    }

-- two changes in a row
pub changes_then : (P : List ℕ → Type 0) (a b c : ShelfState) → ChangesOnly P a b → ChangesOnly P b c →
    ChangesOnly P a c
changes_then P a b c first second =
    record {
      observable = second.observable ∙ first.observable;
      fetch_faults = λ name. omega (arith, first.fetch_faults name, second.fetch_faults name);
      write_faults = λ name. omega (arith, first.write_faults name, second.write_faults name);
      others = λ observable name out. second.others (first.observable ∙ observable) name out
          ∙ first.others observable name out;
    }

-- a change of fewer names
pub changes_wider : (P Q : List ℕ → Type 0) (a b : ShelfState) → ((name : List ℕ) → P name → Q name) →
    ChangesOnly P a b → ChangesOnly Q a b
changes_wider P Q a b wider change =
    record {
      observable = change.observable;
      fetch_faults = change.fetch_faults;
      write_faults = change.write_faults;
      others = λ observable name out. change.others observable name (λ p. out (wider name p));
    }

-- a sink that isn't used goes on
pub sink_none : (s : SinkState) → SinkGoesOn s s
sink_none s = record { observable = refl; faults = omega arith }

-- two puts in a row
pub sink_then : (a b c : SinkState) → SinkGoesOn a b → SinkGoesOn b c → SinkGoesOn a c
sink_then a b c first second =
    record { observable = second.observable ∙ first.observable; faults = omega (arith, first.faults, second.faults) }

-- a link that isn't used goes on
pub link_none : (s : LinkState) → LinkGoesOn s s
link_none s =
    record {
      observable = refl;
      open_faults = λ address. omega arith;
      receive_faults = omega arith;
      send_faults = omega arith;
      quiets = omega arith;
    }

-- two calls of a link in a row
pub link_then : (a b c : LinkState) → LinkGoesOn a b → LinkGoesOn b c → LinkGoesOn a c
link_then a b c first second =
    record {
      observable = second.observable ∙ first.observable;
      open_faults = λ address. omega (arith, first.open_faults address, second.open_faults address);
      receive_faults = omega (arith, first.receive_faults, second.receive_faults);
      send_faults = omega (arith, first.send_faults, second.send_faults);
      quiets = omega (arith, first.quiets, second.quiets);
    }

-- bytes begin with themselves
pub front_itself : (xs : List ℕ) → StartsWith xs xs
front_itself xs = grind (arith, common_steps)

-- what is added comes after
pub front_append : (xs ys : List ℕ) → StartsWith (xs ++ ys) xs
front_append xs ys = grind (arith, common_steps)

-- what begins the second part begins the whole after the first
pub front_more : (xs ys part : List ℕ) → StartsWith ys part → StartsWith (xs ++ ys) (xs ++ part)
front_more xs ys part front =
    rw (length-append xs part) (take-append-add xs ys (length part) ∙ ap (λ zs. xs ++ zs) front)

-- a prefix of the first part is a prefix of the whole
pub front_less : (xs ys part : List ℕ) → StartsWith xs part → StartsWith (xs ++ ys) part
front_less xs ys part front = grind (arith, common_steps)

-- what two appends in a row add
pub adds_then : (a b c : ShelfState) (name xs ys : List ℕ) → b.observable ≡ a.observable → Adds a b name xs →
    Adds b c name ys → Adds a c name (xs ++ ys)
adds_then a b c name xs ys same first second = λ observable.
    let now : b.contents name ≡ Some (bytes_of a name ++ xs) = first observable in
    let all : c.contents name ≡ Some (bytes_of b name ++ ys) = second (same ∙ observable) in
    all ∙ ap (λ o. Some (unwrap_or o [] ++ ys)) now ∙ ap Some (append_assoc (bytes_of a name) xs ys)

-- an append that was broken off after one that wasn't
pub adds_then_part : (a b c : ShelfState) (name xs ys : List ℕ) → b.observable ≡ a.observable → Adds a b name xs →
    AddsPart b c name ys → AddsPart a c name (xs ++ ys)
adds_then_part a b c name xs ys same first second = λ observable.
    let now : b.contents name ≡ Some (bytes_of a name ++ xs) = first observable in
    elim (second (same ∙ observable)) [
      | inl kept ↦ inr (xs, front_append xs ys, kept ∙ now)
      | inr added ↦ inr (
        xs ++ added.0,
        front_more xs ys added.0 added.1,
        added.2
            ∙ ap (λ o. Some (unwrap_or o [] ++ added.0)) now ∙ ap Some (append_assoc (bytes_of a name) xs added.0),
      )
    ]
