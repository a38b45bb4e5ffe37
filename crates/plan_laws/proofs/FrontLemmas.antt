-- Fronts of steps in a row.
use Rattle.std.proofs.Common.{◌≡◌, ℕ, List, [], ◌∷◌, ◌++◌, flat_map, inl, inr, ◌⊎◌, refl, sym, ap, subst, ◌∙◌, append_assoc}
use Rattle.std.proofs.lemmas.List.{append-nil, append_cancel_right}
use Rattle.file_steps.specs.Ending.{IsFileOf}
use Rattle.file_steps.specs.Steps.{IsFront, IsPartOf, Step, append, connect, create, creates, hear, read_clock, send}
use Rattle.file_steps.proofs.LeftLemmas.{files_of_front, only_written}
use Rattle.plan_laws.specs.Fronts.{AreInOrder, FrontsOfTwo, GoesPast, LaterFilesStay, StaysBefore}

-- ---- two lists that are one

-- the first list ends in the second one's front, or the other way round
record Inside (xs ys us vs : List Step) : Type 0 where
  mid : List Step
  first : xs ≡ us ++ mid
  second : vs ≡ mid ++ ys

tail_same : (x y : Step) (xs ys : List Step) → x ∷ xs ≡ y ∷ ys → (x ≡ y) × (xs ≡ ys)
tail_same x y xs ys e = (cc, cc)

two_ways : (xs ys us vs : List Step) → xs ++ ys ≡ us ++ vs → Inside xs ys us vs ⊎ Inside us vs xs ys
two_ways xs ys [] vs e = inl (record { mid = xs; first = refl; second = sym e })
two_ways [] ys (u ∷ us) vs e = inr (record { mid = u ∷ us; first = refl; second = e })
two_ways (x ∷ xs) ys (u ∷ us) vs e =
    let both = tail_same x u (xs ++ ys) (us ++ vs) e in
    by both.0 (two_ways xs ys us vs both.1)
  where
    by : x ≡ u → Inside xs ys us vs ⊎ Inside us vs xs ys
        → Inside (x ∷ xs) ys (u ∷ us) vs ⊎ Inside (u ∷ us) vs (x ∷ xs) ys
    by same (inl i) = inl (record {
      mid = i.mid;
      first = ap (λ (s : Step). s ∷ xs) same ∙ ap (λ (l : List Step). u ∷ l) i.first;
      second = i.second;
    })
    by same (inr i) = inr (record {
      mid = i.mid;
      first = ap (λ (s : Step). s ∷ us) (sym same) ∙ ap (λ (l : List Step). x ∷ l) i.first;
      second = i.second;
    })

-- ---- a part of the next step is one whatever comes after it

part_of_first : (s : Step) (xs ys part : List Step) → IsPartOf (s ∷ xs) part → IsPartOf (s ∷ ys) part
part_of_first (create end) xs ys part p = p
part_of_first (append end bytes) xs ys part p = p
part_of_first (connect address) xs ys part p = p
part_of_first (hear room) xs ys part p = p
part_of_first read_clock xs ys part p = p
part_of_first (send bytes) xs ys part p = p

-- ---- two lists of steps

stays : (xs ys made rest : List Step) (f : IsFront (xs ++ ys) made rest) (s : Step) (mid : List Step)
    → xs ≡ f.done ++ (s ∷ mid) → rest ≡ (s ∷ mid) ++ ys → StaysBefore xs ys made rest
stays xs ys made rest f s mid first second = record {
  left = s ∷ mid;
  front = record {
    done = f.done;
    part = f.part;
    place = first;
    next = part_of_first s (mid ++ ys) mid f.part (subst (λ (l : List Step). IsPartOf l f.part) second f.next);
    made_is = f.made_is;
  };
  rest_is = second;
}

past : (xs ys made rest : List Step) (f : IsFront (xs ++ ys) made rest) (mid : List Step) → f.done ≡ xs ++ mid
    → ys ≡ mid ++ rest → GoesPast xs ys made rest
past xs ys made rest f mid first second = record {
  later = mid ++ f.part;
  front = record { done = mid; part = f.part; place = second; next = f.next; made_is = refl };
  made_is = f.made_is ∙ (ap (λ (l : List Step). l ++ f.part) first ∙ append_assoc xs mid f.part);
}

pub fronts_of_two : FrontsOfTwo
fronts_of_two xs ys made rest f = by (two_ways xs ys f.done rest f.place)
  where
    by : Inside xs ys f.done rest ⊎ Inside f.done rest xs ys → StaysBefore xs ys made rest ⊎ GoesPast xs ys made rest
    by (inl i) = at i.mid i.first i.second
      where
        at : (mid : List Step) → xs ≡ f.done ++ mid → rest ≡ mid ++ ys
            → StaysBefore xs ys made rest ⊎ GoesPast xs ys made rest
        at [] first second =
            inr (past xs ys made rest f [] (sym (append-nil f.done) ∙ (sym first ∙ sym (append-nil xs))) (sym second))
        at (s ∷ mid) first second = inl (stays xs ys made rest f s mid first second)
    by (inr i) = inr (past xs ys made rest f i.mid i.first i.second)

-- ---- the steps of each of a list of things

module _ {T : Type 0} (f : T → List Step) where
  nothing_made : (made rest : List Step) → IsFront [] made rest → made ≡ []
  nothing_made made rest front = front.made_is ∙ by front.done rest front.place front.part front.next
    where
      by : (done rest : List Step) → [] ≡ done ++ rest → (part : List Step) → IsPartOf rest part → done ++ part ≡ []
      by [] [] e part p = p
      by [] (s ∷ rest) e part p = let q : [] ≡ s ∷ rest = e in cc
      by (s ∷ done) rest e part p = let q : [] ≡ s ∷ (done ++ rest) = e in cc

  pub in_order : (xs : List T) (made rest : List Step) → IsFront (flat_map f xs) made rest → AreInOrder f xs made
  in_order [] made rest front = record {
    whole = [];
    later = [];
    place = refl;
    part = [];
    next = refl;
    made_is = nothing_made made rest front;
  }
  in_order (x ∷ xs) made rest front =
      by (λ later g. in_order xs later rest g) (fronts_of_two (f x) (flat_map f xs) made rest front)
    where
      by : ((later : List Step) → IsFront (flat_map f xs) later rest → AreInOrder f xs later)
          → StaysBefore (f x) (flat_map f xs) made rest ⊎ GoesPast (f x) (flat_map f xs) made rest
          → AreInOrder f (x ∷ xs) made
      by go (inl s) = record {
        whole = [];
        later = x ∷ xs;
        place = refl;
        part = made;
        next = (s.left, s.front);
        made_is = refl;
      }
      by go (inr g) = let o = go g.later g.front in record {
        whole = x ∷ o.whole;
        later = o.later;
        place = ap (λ (l : List T). x ∷ l) o.place;
        part = o.part;
        next = o.next;
        made_is = g.made_is ∙ (ap (λ (l : List Step). f x ++ l) o.made_is
            ∙ sym (append_assoc (f x) (flat_map f o.whole) o.part));
      }

-- ---- files that are created later

file_of_part : (out : List ℕ) (end : List ℕ) (more part : List Step) (xs : List Step) (name : List ℕ)
    → IsPartOf (create end ∷ more) part → IsFileOf out (xs ++ part) name → IsFileOf out (xs ++ (create end ∷ [])) name
file_of_part out end more part xs name p is =
    files_of_front out name (xs ++ (create end ∷ [])) (xs ++ part) (create end ∷ []) (record {
      done = xs;
      part = part;
      place = refl;
      next = part_of_first (create end) more [] part p;
      made_is = refl;
    }) is

pub later_files_stay : LaterFilesStay
later_files_stay out before end more said old new cut seen name other =
    (only_written out cut.made said old new cut.carried).others seen name (λ is. other (by is))
  where
    whole : cut.front.done ≡ creates before
    whole = sym (append_cancel_right (creates before) cut.front.done (create end ∷ more) cut.front.place)

    by : IsFileOf out cut.made name → IsFileOf out (creates before ++ (create end ∷ [])) name
    by is =
        file_of_part out end more cut.front.part (creates before) name cut.front.next
        (subst (λ (l : List Step). IsFileOf out l name)
        (cut.front.made_is ∙ ap (λ (l : List Step). l ++ cut.front.part) whole) is)
