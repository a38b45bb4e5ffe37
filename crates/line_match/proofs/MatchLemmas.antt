-- The matched end of two kept lines.
use Rattle.std.proofs.Common.{◌≡◌, ℕ, ◌+◌, ◌≤◌, Bool, true, false, ◌&&◌, ◌==◌, nat_le, is_some, if◌then◌else◌, drop, Option, None, Some, refl, sym, ap, ◌∙◌, true≢false}
use Rattle.std.specs.List.{common_prefix_len}
use Rattle.std.proofs.lemmas.Bool.{le-leb}
use Rattle.tcp_track.specs.Segments.{same_symbol}
use Rattle.tcp_track.specs.LineFields.{LineFields}
use Rattle.tcp_track.specs.Lines.{Line}
use Rattle.tcp_track.specs.declared.openings.Opening.{Opening}
use Rattle.line_release.specs.Whole.{whole_of}
use Rattle.settle_rules.specs.Matching.{BothLines, have_one_client, has_one_client, matched_end}
use Rattle.line_match.specs.Rest.{agreed_from}
use Rattle.line_match.proofs.PrefixLemmas.{agreed_is}

pub left_opened : (p q : Option Opening) → have_one_client p q ≡ true → is_some p ≡ true
left_opened None q h = absurd (true≢false (sym h))
left_opened (Some p) q h = refl

pub right_opened : (p q : Option Opening) → have_one_client p q ≡ true → is_some q ≡ true
right_opened None q h = absurd (true≢false (sym h))
right_opened (Some p) None h = absurd (true≢false (sym h))
right_opened (Some p) (Some q) h = refl

pub matched_is : (b : BothLines) (l m : LineFields) (edge n : ℕ) → b.mine ≡ whole_of l → b.theirs ≡ whole_of m →
    has_one_client b ≡ true → l.base ≤ edge → m.base ≤ edge → n ≡ agreed_from l m edge → edge + n ≡ matched_end b edge
matched_is b l m edge n mine theirs one low down e =
    let both : have_one_client l.opening m.opening ≡ true =
    (λ i. have_one_client (sym mine i).opening (sym theirs i).opening) ∙ one in
    let known : nat_le b.theirs.base edge ≡ true =
    ap (λ (x : Line). nat_le x.base edge) theirs ∙ le-leb m.base edge down in
    let test : (has_one_client b && nat_le b.theirs.base edge) ≡ true =
    (λ i. one i && nat_le b.theirs.base edge) ∙ known in
    let all : n ≡ common_prefix_len same_symbol (drop edge b.mine.symbols) (drop edge b.theirs.symbols) =
    e ∙ (sym (agreed_is l m edge (left_opened l.opening m.opening both) (right_opened l.opening m.opening both) low
    down)
    ∙ (λ i. common_prefix_len same_symbol (drop edge (sym mine i).symbols) (drop edge (sym theirs i).symbols))) in
    ap (λ (k : ℕ). edge + k) all ∙ sym (ap (λ (t : Bool). if t then edge
    + common_prefix_len same_symbol (drop edge b.mine.symbols) (drop edge b.theirs.symbols) else edge) test)
