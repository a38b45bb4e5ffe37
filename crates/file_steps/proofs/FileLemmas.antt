-- From one call on a file to one step.
use Rattle.std.proofs.Common.{◌≡◌, ℕ, Bool, true, false, IsTrue, List, [], ◌∷◌, ◌++◌, Option, Some, unwrap_or, ◌⊎◌, inl, inr, refl, sym, ◌∙◌, subst, if◌then◌else◌}
use Rattle.std.specs.Io.{StartsWith}
use Rattle.std.specs.Str.{bytes_eq}
use Rattle.std.specs.Cmp.Lexicographic.{same_text, other_text}
use Rattle.std.proofs.lemmas.Bool.{false≢true}
use Rattle.std.proofs.lemmas.List.{append_cancel_left, append-nil}
use Rattle.colo_base.specs.Clock.{ClockState}
use Rattle.colo_base.specs.Count.{Increased}
use Rattle.colo_base.specs.Link.{LinkState}
use Rattle.colo_base.specs.Shelf.{ShelfState, ChangesOnly, NoFetchFailed, NoWriteFailed, Adds, AddsPart, Empties, EmptiesOrKeeps}
use Rattle.colo_base.specs.declared.traits.ShelfFault.{ShelfFault}
use Rattle.colo_base.specs.declared.traits.ShelfFault.TheVariants as shelf_fault
use Rattle.colo_base.proofs.StateLemmas.{changes_wider, link_none}
use Rattle.file_steps.specs.Status.{write_fault}
use Rattle.file_steps.specs.Steps.{Step, create, append, Outside, outside, nothing, IsNamed, Carried, IsPartOf, CutOff, NoneFailed, Done, Fails, file_name}
use Rattle.file_steps.proofs.StepLemmas.{gives_none}

same_either : {T : Type 0} (b : Bool) (x : T) → (if b then x else x) ≡ x
same_either true x = refl
same_either false x = refl

module _ (a b : ShelfState) (l : LinkState) (k : ClockState) (out end name : List ℕ) (named : name ≡ file_name out end)
    (change : ChangesOnly (λ other. other ≡ name) a b) (fetches : NoFetchFailed a b) where
  abbrev old : Outside
  old = outside a l k

  abbrev new : Outside
  new = outside b l k

  change_named : ChangesOnly (λ other. other ≡ file_name out end) a b
  change_named = let P : List ℕ → Type 0 = λ n. ChangesOnly (λ other. other ≡ n) a b in subst P named change

  -- what the call made of the file's bytes
  abbrev Makes : (Option (List ℕ) → Option (List ℕ)) → Type 0
  Makes g = b.contents (file_name out end) ≡ g (a.contents (file_name out end))

  at_end : (g : Option (List ℕ) → Option (List ℕ)) → IsTrue a.observable → Makes g → (e : List ℕ) (t : Bool)
      → bytes_eq e end ≡ t → b.contents (out ++ e) ≡ (if t then g (a.contents (out ++ e)) else a.contents (out ++ e))
  at_end g seen makes e true is =
      let P : List ℕ → Type 0 = λ x. b.contents (out ++ x) ≡ g (a.contents (out ++ x)) in
      subst P (sym (same_text e end (sym is))) makes
  at_end g seen makes e false is =
      change_named.others seen (out ++ e) (λ same. other_text e end (sym is) (append_cancel_left out e end same))

  files_by : (g : Option (List ℕ) → Option (List ℕ)) → (IsTrue a.observable → Makes g) → IsTrue a.observable
      → (e : List ℕ) → b.contents (out ++ e)
      ≡ (if bytes_eq e end then g (a.contents (out ++ e)) else a.contents (out ++ e))
  files_by g makes seen e = at_end g seen (makes seen) e (bytes_eq e end) refl

  wider : ChangesOnly (IsNamed out) a b
  wider = changes_wider (λ other. other ≡ file_name out end) (IsNamed out) a b (λ other e. (end, e)) change_named

  created : (IsTrue a.observable → Makes (λ v. Some [])) → Carried out (create end ∷ []) nothing old new
  created makes = record {
    change = wider;
    fetches = fetches;
    files = files_by (λ v. Some []) makes;
    link = link_none l;
    opened = refl;
    sent = λ seen. sym (append-nil l.sent);
    heard = λ seen. sym (append-nil l.answers);
    asked = refl;
    given = gives_none k;
    readings = refl;
  }

  appended : (more : List ℕ) → (IsTrue a.observable → Makes (λ v. Some (unwrap_or v [] ++ more)))
      → Carried out (append end more ∷ []) nothing old new
  appended more makes = record {
    change = wider;
    fetches = fetches;
    files = files_by (λ v. Some (unwrap_or v [] ++ more)) makes;
    link = link_none l;
    opened = refl;
    sent = λ seen. sym (append-nil l.sent);
    heard = λ seen. sym (append-nil l.answers);
    asked = refl;
    given = gives_none k;
    readings = refl;
  }

  kept : (IsTrue a.observable → Makes (λ v. v)) → Carried out [] nothing old new
  kept makes = record {
    change = wider;
    fetches = fetches;
    files = λ seen e. files_by (λ v. v) makes seen e ∙ same_either (bytes_eq e end) (a.contents (out ++ e));
    link = link_none l;
    opened = refl;
    sent = λ seen. sym (append-nil l.sent);
    heard = λ seen. sym (append-nil l.answers);
    asked = refl;
    given = gives_none k;
    readings = refl;
  }

  none_failed : NoWriteFailed a b → NoneFailed old new
  none_failed writes = record { writes = writes; opens = λ address. refl; receives = refl; sends = refl }

  pub create_done : Empties a b name → NoWriteFailed a b → Done out (create end ∷ []) nothing old new
  create_done emptied writes =
      let P : List ℕ → Type 0 = λ n. Empties a b n in
      record { carried = created (subst P named emptied); none = none_failed writes }

  pub append_done : (more : List ℕ) → Adds a b name more → NoWriteFailed a b
      → Done out (append end more ∷ []) nothing old new
  append_done more adds writes =
      let P : List ℕ → Type 0 = λ n. Adds a b n more in
      record { carried = appended more (subst P named adds); none = none_failed writes }

  -- the count of the file increased where the call failed
  abbrev pub Rises : ShelfFault → Type 0
  Rises fault = fault ≡ shelf_fault.Failed → Increased (a.write_faults name) (b.write_faults name)

  -- cut off at the one step, whatever the fault
  one_cut : (s : Step) (made : List Step) → IsPartOf (s ∷ []) made → Carried out made nothing old new
      → CutOff out (s ∷ []) (s ∷ []) nothing old new
  one_cut s made next carried = record {
    made = made;
    front = record { done = []; part = made; place = refl; next = next; made_is = refl };
    carried = carried;
  }

  rose_named : Increased (a.write_faults name) (b.write_faults name)
      → Increased (a.write_faults (file_name out end)) (b.write_faults (file_name out end))
  rose_named rose = let P : List ℕ → Type 0 = λ n. Increased (a.write_faults n) (b.write_faults n) in subst P named rose

  create_cut : EmptiesOrKeeps a b name → CutOff out (create end ∷ []) (create end ∷ []) nothing old new
  create_cut either = by a.observable refl
    where
      at : (b.contents (file_name out end) ≡ Some [])
          ⊎ (b.contents (file_name out end) ≡ a.contents (file_name out end))
          → CutOff out (create end ∷ []) (create end ∷ []) nothing old new
      at (inl emptied) = one_cut (create end) (create end ∷ []) (inr refl) (created (λ seen. emptied))
      at (inr same) = one_cut (create end) [] (inl refl) (kept (λ seen. same))

      by : (t : Bool) → a.observable ≡ t → CutOff out (create end ∷ []) (create end ∷ []) nothing old new
      by false e = one_cut (create end) [] (inl refl) (kept (λ seen. absurd (false≢true (sym e ∙ seen))))
      by true e = at (let R : List ℕ → Type 0 = λ n. EmptiesOrKeeps a b n in subst R named either e)

  append_cut : (more : List ℕ) → AddsPart a b name more
      → CutOff out (append end more ∷ []) (append end more ∷ []) nothing old new
  append_cut more part = by a.observable refl
    where
      at : (b.contents (file_name out end) ≡ a.contents (file_name out end))
          ⊎ ((front : List ℕ) × StartsWith more front
          × (b.contents (file_name out end) ≡ Some (unwrap_or (a.contents (file_name out end)) [] ++ front)))
          → CutOff out (append end more ∷ []) (append end more ∷ []) nothing old new
      at (inl same) = one_cut (append end more) [] (inl refl) (kept (λ seen. same))
      at (inr (front, begins, added)) =
          one_cut (append end more) (append end front ∷ []) (inr (front, begins, refl)) (appended front (λ seen. added))

      by : (t : Bool) → a.observable ≡ t
          → CutOff out (append end more ∷ []) (append end more ∷ []) nothing old new
      by false e = one_cut (append end more) [] (inl refl) (kept (λ seen. absurd (false≢true (sym e ∙ seen))))
      by true e = at (let R : List ℕ → Type 0 = λ n. AddsPart a b n more in subst R named part e)

  pub create_fails : (fault : ShelfFault) → EmptiesOrKeeps a b name → Rises fault
      → Fails out (create end ∷ []) nothing old new (write_fault fault)
  create_fails shelf_fault.Failed either rose =
      record { rest = create end ∷ []; cut = create_cut either; failed = rose_named (rose refl) }
  create_fails shelf_fault.NoMemory either rose = record { rest = create end ∷ []; cut = create_cut either }

  pub append_fails : (more : List ℕ) (fault : ShelfFault) → AddsPart a b name more → Rises fault
      → Fails out (append end more ∷ []) nothing old new (write_fault fault)
  append_fails more shelf_fault.Failed part rose =
      record { rest = append end more ∷ []; cut = append_cut more part; failed = rose_named (rose refl) }
  append_fails more shelf_fault.NoMemory part rose =
      record { rest = append end more ∷ []; cut = append_cut more part }
