-- An option is given again, or not.
use Rattle.std.proofs.Common.{◌≡◌, ℕ, Bool, true, false, List, Option, None, refl, sym, ap, ◌∙◌}
use Rattle.colo_words.specs.Options.{Row, is_given, read_last}
use Rattle.colo_words.specs.Words.{read_number}

module _ (r : Row) (number : List ℕ) (words : List (List ℕ)) (word : List ℕ) (t : Bool) (same : word ≡ r.word)
    (is : t ≡ is_given word words) where
  pub given : t ≡ true → None ≡ read_last r number words
  unfolding read_last
  given is_true =
      let p : is_given r.word words ≡ true = ap (λ w. is_given w words) (sym same) ∙ (sym is ∙ is_true) in rw p refl

  pub not_given : t ≡ false → (o : Option ℕ) → o ≡ read_number r.least r.most number → o ≡ read_last r number words
  unfolding read_last
  not_given is_false o e =
      let p : is_given r.word words ≡ false = ap (λ w. is_given w words) (sym same) ∙ (sym is ∙ is_false) in rw p e
