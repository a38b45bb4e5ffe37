-- Steps in a row, done and failed.
use Rattle.std.proofs.Common.{ℕ, List, [], ◌∷◌, ◌++◌, inl, inr, refl, sym, ap, ◌∙◌, append_assoc}
use Rattle.colo_base.proofs.StateLemmas.{increased_before}
use Rattle.file_steps.specs.declared.fault.Fault.{Fault}
use Rattle.file_steps.specs.declared.fault.Fault.TheVariants.{Usage, Refused, Read, Write, NoMemory}
use Rattle.file_steps.specs.Steps.{Step, create, append, connect, hear, read_clock, send, Said, said_then, Outside, nothing, Carried, IsPartOf, CutOff, OfFirst, OfOne, WriteFailed, HearFailed, Done, FailsAt, Fails}
use Rattle.file_steps.proofs.StepLemmas.{carried_none, carried_then}

pub done_none : (out : List ℕ) (s : Outside) → Done out [] nothing s s
done_none out s = record {
  carried = carried_none out s;
  none = record { writes = λ name. refl; opens = λ address. refl; receives = refl; sends = refl };
}

pub done_then : (out : List ℕ) (xs ys : List Step) (p q : Said) (a b c : Outside) → Done out xs p a b
    → Done out ys q b c → Done out (xs ++ ys) (said_then p q) a c
done_then out xs ys p q a b c first second = record {
  carried = carried_then out xs ys p q a b c first.carried second.carried;
  none = record {
    writes = λ name. second.none.writes name ∙ first.none.writes name;
    opens = λ address. second.none.opens address ∙ first.none.opens address;
    receives = second.none.receives ∙ first.none.receives;
    sends = second.none.sends ∙ first.none.sends;
  };
}

-- ---- a failure after what was done

-- a failure by the counts of a later part is one by those of the whole
write_before : (out : List ℕ) (a b c : Outside) (xs : List Step) (p : Said) → Carried out xs p a b → (s : Step)
    → WriteFailed out b c s → WriteFailed out a c s
write_before out a b c xs p first (create end) rose =
    increased_before (a.shelf.write_faults (out ++ end)) (b.shelf.write_faults (out ++ end))
    (c.shelf.write_faults (out ++ end)) (first.change.write_faults (out ++ end)) rose
write_before out a b c xs p first (append end more) rose =
    increased_before (a.shelf.write_faults (out ++ end)) (b.shelf.write_faults (out ++ end))
    (c.shelf.write_faults (out ++ end)) (first.change.write_faults (out ++ end)) rose
write_before out a b c xs p first (connect address) none = none
write_before out a b c xs p first (hear room) none = none
write_before out a b c xs p first read_clock none = none
write_before out a b c xs p first (send more) rose =
    increased_before a.link.send_faults b.link.send_faults c.link.send_faults first.link.send_faults rose

hear_before : (out : List ℕ) (a b c : Outside) (xs : List Step) (p : Said) → Carried out xs p a b → (s : Step)
    → HearFailed b c s → HearFailed a c s
hear_before out a b c xs p first (create end) none = none
hear_before out a b c xs p first (append end more) none = none
hear_before out a b c xs p first read_clock none = none
hear_before out a b c xs p first (send more) none = none
hear_before out a b c xs p first (connect address) rose =
    increased_before (a.link.open_faults address) (b.link.open_faults address) (c.link.open_faults address)
    (first.link.open_faults address) rose
hear_before out a b c xs p first (hear room) rose =
    increased_before a.link.receive_faults b.link.receive_faults c.link.receive_faults first.link.receive_faults rose

of_first : (P Q : Step → Type 0) → ((s : Step) → P s → Q s) → (steps : List Step) → OfFirst P steps → OfFirst Q steps
of_first P Q f [] none = none
of_first P Q f (s ∷ steps) p = f s p

cut_then : (out : List ℕ) (xs ys rest : List Step) (p q : Said) (a b c : Outside) → Carried out xs p a b
    → CutOff out ys rest q b c → CutOff out (xs ++ ys) rest (said_then p q) a c
cut_then out xs ys rest p q a b c first cut = record {
  made = xs ++ cut.made;
  front = record {
    done = xs ++ cut.front.done;
    part = cut.front.part;
    place = ap (λ l. xs ++ l) cut.front.place ∙ sym (append_assoc xs cut.front.done rest);
    next = cut.front.next;
    made_is = ap (λ l. xs ++ l) cut.front.made_is ∙ sym (append_assoc xs cut.front.done cut.front.part);
  };
  carried = carried_then out xs cut.made p q a b c first cut.carried;
}

at_then : (out : List ℕ) (xs ys : List Step) (p q : Said) (a b c : Outside) (P Q : Step → Type 0)
    → ((s : Step) → P s → Q s) → Carried out xs p a b → FailsAt out ys q b c P
    → FailsAt out (xs ++ ys) (said_then p q) a c Q
at_then out xs ys p q a b c P Q before first f = record {
  rest = f.rest;
  cut = cut_then out xs ys f.rest p q a b c first f.cut;
  failed = of_first P Q before f.rest f.failed;
}

pub fails_then : (out : List ℕ) (xs ys : List Step) (p q : Said) (a b c : Outside) (fault : Fault) → Done out xs p a b
    → Fails out ys q b c fault → Fails out (xs ++ ys) (said_then p q) a c fault
fails_then out xs ys p q a b c Usage first none = none
fails_then out xs ys p q a b c (Refused refusal) first none = none
fails_then out xs ys p q a b c Write first f =
    at_then out xs ys p q a b c (WriteFailed out b c) (WriteFailed out a c)
    (write_before out a b c xs p first.carried) first.carried f
fails_then out xs ys p q a b c Read first f =
    at_then out xs ys p q a b c (HearFailed b c) (HearFailed a c) (hear_before out a b c xs p first.carried)
    first.carried f
fails_then out xs ys p q a b c NoMemory first f =
    record { rest = f.rest; cut = cut_then out xs ys f.rest p q a b c first.carried f.cut }

-- ---- a failure before what was to come

next_none : (steps : List Step) → IsPartOf steps []
next_none [] = refl
next_none (create end ∷ steps) = inl refl
next_none (append end more ∷ steps) = inl refl
next_none (connect address ∷ steps) = refl
next_none (hear room ∷ steps) = refl
next_none (read_clock ∷ steps) = refl
next_none (send more ∷ steps) = inl refl

next_more : (rest ys part : List Step) → IsPartOf rest part → IsPartOf (rest ++ ys) part
next_more [] ys part none = rw none (next_none ys)
next_more (create end ∷ rest) ys part next = next
next_more (append end more ∷ rest) ys part next = next
next_more (connect address ∷ rest) ys part next = next
next_more (hear room ∷ rest) ys part next = next
next_more (read_clock ∷ rest) ys part next = next
next_more (send more ∷ rest) ys part next = next

first_more : (P : Step → Type 0) (rest ys : List Step) → OfFirst P rest → OfFirst P (rest ++ ys)
first_more P [] ys none = absurd none
first_more P (s ∷ rest) ys p = p

cut_front : (out : List ℕ) (xs ys rest : List Step) (p : Said) (a b : Outside) → CutOff out xs rest p a b
    → CutOff out (xs ++ ys) (rest ++ ys) p a b
cut_front out xs ys rest p a b cut = record {
  made = cut.made;
  front = record {
    done = cut.front.done;
    part = cut.front.part;
    place = ap (λ l. l ++ ys) cut.front.place ∙ append_assoc cut.front.done rest ys;
    next = next_more rest ys cut.front.part cut.front.next;
    made_is = cut.front.made_is;
  };
  carried = cut.carried;
}

at_front : (out : List ℕ) (xs ys : List Step) (p : Said) (a b : Outside) (P : Step → Type 0)
    → FailsAt out xs p a b P → FailsAt out (xs ++ ys) p a b P
at_front out xs ys p a b P f = record {
  rest = f.rest ++ ys;
  cut = cut_front out xs ys f.rest p a b f.cut;
  failed = first_more P f.rest ys f.failed;
}

pub fails_front : (out : List ℕ) (xs ys : List Step) (p : Said) (a b : Outside) (fault : Fault)
    → Fails out xs p a b fault → Fails out (xs ++ ys) p a b fault
fails_front out xs ys p a b Usage none = none
fails_front out xs ys p a b (Refused refusal) none = none
fails_front out xs ys p a b Write f = at_front out xs ys p a b (WriteFailed out a b) f
fails_front out xs ys p a b Read f = at_front out xs ys p a b (HearFailed a b) f
fails_front out xs ys p a b NoMemory f =
    record { rest = f.rest ++ ys; cut = cut_front out xs ys f.rest p a b f.cut }

-- memory was refused before the first step
pub no_memory : (out : List ℕ) (steps : List Step) (s : Outside) → Fails out steps nothing s s NoMemory
no_memory out steps s = record {
  rest = steps;
  cut = record {
    made = [];
    front = record { done = []; part = []; place = refl; next = next_none steps; made_is = refl };
    carried = carried_none out s;
  };
}

-- the step that failed is one of them
pub of_one : (P : Step → Type 0) (done rest : List Step) → OfFirst P rest → OfOne P (done ++ rest)
of_one P [] [] none = none
of_one P [] (s ∷ rest) p = inl p
of_one P (s ∷ done) rest p = inr (of_one P done rest p)
