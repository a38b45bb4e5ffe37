-- A word and its operands, both ways.
use Rattle.std.proofs.Common.{◌≡◌, ℕ, ◌/◌, ◌%◌, ◌<◌, ◌^◌, Bool, true, ◌&&◌, ◌==◌, bit_and, sym, eqb-true, arith}
use Rattle.std.proofs.lemmas.Bool.{and_parts}
use Rattle.std.proofs.lemmas.Nat.{and_mask}
use Rattle.rv_isa.proofs.FieldLemmas.{with_opcode, with_funct3, with_funct7, with_funct5, with_lr, u_type_fields, j_type_fields, i_type_fields, b_type_fields, s_type_fields, csr_fields, r_type_fields, amo_fields, lr_fields}
use Rattle.rv_isa.proofs.OneWordLemmas.{u_type_back, j_type_back, i_type_back, b_type_back, s_type_back, r_type_back, csr_type_back, amo_type_back, lr_type_back, exact_back}
use Rattle.rv_isa.proofs.RowLemmas.{◌&◌}
use Rattle.rv_isa.proofs.RangeLemmas.{imm_i_within, imm_s_within, imm_b_within, imm_j_within}
use Rattle.rv_forms.specs.declared.kinds.Operands.{Operands}
use Rattle.rv_forms.specs.declared.kinds.Syntax.{Syntax}
use Rattle.rv_forms.specs.declared.kinds.Syntax.TheVariants.{UType, JType, IType, ShiftType, LoadType, SType, BType, RType, CsrType, CsrNumberType, Exact, LrType, AmoType}
use Rattle.rv_forms.specs.Forms.{kinds_of, mask_of, operands_of, word_of}
use Rattle.rv_forms.specs.Ranges.{AreInRange, Keeps}

-- the operands of a word, put in their places, give the word back
pub word_back : (syntax : Syntax) (value w : ℕ) → w < 2 ^ 32 → bit_and w (mask_of syntax) ≡ value →
    word_of syntax value (operands_of syntax w) ≡ w
unfolding word_of operands_of
word_back UType v w l e = u_type_back w v l e
word_back JType v w l e = j_type_back w v l e
word_back IType v w l e = i_type_back w v l e
word_back ShiftType v w l e = r_type_back w v l e
word_back LoadType v w l e = i_type_back w v l e
word_back SType v w l e = s_type_back w v l e
word_back BType v w l e = b_type_back w v l e
word_back RType v w l e = r_type_back w v l e
word_back CsrType v w l e = csr_type_back w v l e
word_back CsrNumberType v w l e = csr_type_back w v l e
word_back Exact v w l e = exact_back w v l e
word_back LrType v w l e = lr_type_back w v l e
word_back AmoType v w l e = amo_type_back w v l e

-- the operands of a word are within their ranges
pub operands_in_range : (syntax : Syntax) (w : ℕ) → w < 2 ^ 32 → AreInRange (kinds_of syntax) (operands_of syntax w)
unfolding operands_of
operands_in_range UType w l = (omega arith) & (omega arith) & tt
operands_in_range JType w l = (omega arith) & imm_j_within w & tt
operands_in_range IType w l = (omega arith) & (omega arith) & imm_i_within w & tt
operands_in_range ShiftType w l = (omega arith) & (omega arith) & (omega arith) & tt
operands_in_range LoadType w l = (omega arith) & (imm_i_within w, omega arith) & tt
operands_in_range SType w l = (omega arith) & (imm_s_within w, omega arith) & tt
operands_in_range BType w l = (omega arith) & (omega arith) & imm_b_within w & tt
operands_in_range RType w l = (omega arith) & (omega arith) & (omega arith) & tt
operands_in_range CsrType w l = (omega arith) & (omega arith) & (omega arith) & tt
operands_in_range CsrNumberType w l = (omega arith) & (omega arith) & (omega arith) & tt
operands_in_range Exact w l = tt
operands_in_range LrType w l = (omega arith) & (omega arith) & tt
operands_in_range AmoType w l = (omega arith) & (omega arith) & (omega arith) & tt

-- a word without operands has no bits where operands stand
abbrev pub is_fixed : Syntax → ℕ → Bool
is_fixed LrType v = bit_and v 0xF9F0707F == v && v / 2 ^ 20 % 2 ^ 5 == 0
is_fixed syntax v = bit_and v (mask_of syntax) == v

pub word_keeps : (syntax : Syntax) (v : ℕ) (x : Operands) → is_fixed syntax v ≡ true → AreInRange (kinds_of syntax) x →
    Keeps syntax v x
unfolding word_of operands_of
word_keeps UType v x e r =
    let k = u_type_fields v x.rd x.wide (with_opcode v (eqb-true _ _ e)) r.0 r.1.0 in
    record { below = k.0; fixed = k.1; operands = sym k.2 & sym k.3 & tt; order = tt }
word_keeps JType v x e r =
    let k = j_type_fields v x.rd x.imm (with_opcode v (eqb-true _ _ e)) r.0 r.1.0 in
    record { below = k.0; fixed = k.1; operands = sym k.2 & sym k.3 & tt; order = tt }
word_keeps IType v x e r =
    let k = i_type_fields v x.rd x.rs1 x.imm (with_funct3 v (eqb-true _ _ e)) r.0 r.1.0 r.1.1.0 in
    record { below = k.0; fixed = k.1; operands = sym k.2 & sym k.3 & sym k.4 & tt; order = tt }
word_keeps ShiftType v x e r =
    let k = r_type_fields v x.rd x.rs1 x.rs2 (with_funct7 v (eqb-true _ _ e)) r.0 r.1.0 r.1.1.0 in
    record { below = k.0; fixed = k.1; operands = sym k.2 & sym k.3 & sym k.4 & tt; order = tt }
word_keeps LoadType v x e r =
    let k = i_type_fields v x.rd x.rs1 x.imm (with_funct3 v (eqb-true _ _ e)) r.0 r.1.0.1 r.1.0.0 in
    record { below = k.0; fixed = k.1; operands = sym k.2 & (sym k.4, sym k.3) & tt; order = tt }
word_keeps SType v x e r =
    let k = s_type_fields v x.rs1 x.rs2 x.imm (with_funct3 v (eqb-true _ _ e)) r.1.0.1 r.0 r.1.0.0 in
    record { below = k.0; fixed = k.1; operands = sym k.3 & (sym k.4, sym k.2) & tt; order = tt }
word_keeps BType v x e r =
    let k = b_type_fields v x.rs1 x.rs2 x.imm (with_funct3 v (eqb-true _ _ e)) r.0 r.1.0 r.1.1.0 in
    record { below = k.0; fixed = k.1; operands = sym k.2 & sym k.3 & sym k.4 & tt; order = tt }
word_keeps RType v x e r =
    let k = r_type_fields v x.rd x.rs1 x.rs2 (with_funct7 v (eqb-true _ _ e)) r.0 r.1.0 r.1.1.0 in
    record { below = k.0; fixed = k.1; operands = sym k.2 & sym k.3 & sym k.4 & tt; order = tt }
word_keeps CsrType v x e r =
    let k = csr_fields v x.rd x.rs1 x.wide (with_funct3 v (eqb-true _ _ e)) r.0 r.1.1.0 r.1.0 in
    record { below = k.0; fixed = k.1; operands = sym k.2 & sym k.4 & sym k.3 & tt; order = tt }
word_keeps CsrNumberType v x e r =
    let k = csr_fields v x.rd x.rs1 x.wide (with_funct3 v (eqb-true _ _ e)) r.0 r.1.1.0 r.1.0 in
    record { below = k.0; fixed = k.1; operands = sym k.2 & sym k.4 & sym k.3 & tt; order = tt }
word_keeps Exact v x e r =
    record { below = omega (arith, and_mask v 32, eqb-true _ _ e); fixed = eqb-true _ _ e; operands = tt; order = tt }
word_keeps LrType v x e r =
    let b = and_parts (bit_and v 0xF9F0707F == v) (v / 2 ^ 20 % 2 ^ 5 == 0) e in
    let k = lr_fields v x.rd x.rs1 x.aq x.rl (with_lr v (eqb-true _ _ b.0) (eqb-true _ _ b.1)) r.0 r.1.0 in
    record { below = k.0; fixed = k.1; operands = sym k.2 & sym k.3 & tt; order = (sym k.4, sym k.5) }
word_keeps AmoType v x e r =
    let k = amo_fields v x.rd x.rs1 x.rs2 x.aq x.rl (with_funct5 v (eqb-true _ _ e)) r.0 r.1.1.0 r.1.0 in
    record { below = k.0; fixed = k.1; operands = sym k.2 & sym k.4 & sym k.3 & tt; order = (sym k.5, sym k.6) }
