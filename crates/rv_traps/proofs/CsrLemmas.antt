-- What callers may need of the CSR table.
use Rattle.std.proofs.Common.{◌≡◌, ℕ, Bool, true, false, cond, List, [], ◌∷◌, refl}
use Rattle.std.specs.Prelude.{Option, Some, None, is_some, option_and_then, ◌==◌}
use Rattle.std.specs.List.{find}
use Rattle.std.specs.Option.{option_map, option_map_or}
use Rattle.rv_traps.specs.CsrState.{CsrState, KeepsLines}
use Rattle.rv_traps.specs.Trap.{return_from_trap}
use Rattle.rv_traps.specs.CsrTable.{Row, table, row_at, read_csr, write_at, write_csr, is_writable}

kept : (c : CsrState) (v : ℕ) (write : Option (CsrState → ℕ → CsrState)) → is_some write ≡ false
    → option_map_or (λ f. f c v) write c ≡ c
kept c v None e = refl
kept c v (Some f) e = cc

-- an illegal write leaves the state as it was
pub write_csr_refused : (c : CsrState) (n v : ℕ) → is_writable n ≡ false → write_csr c n v ≡ c
unfolding is_writable write_csr
write_csr_refused c n v e = kept c v (write_at n) e

unread : (c : CsrState) (row : Option Row) → option_map (λ r. r.read c) row ≡ None
    → is_some (option_and_then (λ r. r.write) row) ≡ false
unread c None e = refl
unread c (Some row) e = cc

-- what cannot be read cannot be written
pub unread_unwritable : (c : CsrState) (n : ℕ) → read_csr c n ≡ None → is_writable n ≡ false
unfolding read_csr is_writable write_at
unread_unwritable c n e = unread c (row_at n) e

pub keeps_lines_same : (c : CsrState) → KeepsLines c c
keeps_lines_same c = record { msip = refl; mtime = refl; mtimecmp = refl; steps = refl; external = refl }

-- a write that keeps the lines, of whatever value
abbrev WriteKeeps : Option (CsrState → ℕ → CsrState) → Type 0
WriteKeeps None = Unit {0}
WriteKeeps (Some write) = (c : CsrState) (v : ℕ) → KeepsLines c (write c v)

abbrev RowsKeep : List Row → Type 0
RowsKeep [] = Unit {0}
RowsKeep (row ∷ rows) = WriteKeeps row.write × RowsKeep rows

abbrev FoundKeeps : Option Row → Type 0
FoundKeeps None = Unit {0}
FoundKeeps (Some row) = WriteKeeps row.write

found_keeps : (p : Row → Bool) (rows : List Row) → RowsKeep rows → FoundKeeps (find p rows)
found_keeps p [] k = tt
found_keeps p (row ∷ rows) k =
    elim (p row) as (λ b. FoundKeeps (cond b (Some row) (find p rows))) [
      | true ↦ k.0
      | false ↦ found_keeps p rows k.1
    ]

infixr 5 ◌&◌
◌&◌ : {A B : Type 0} → A → B → A × B
a & b = (a, b)

table_keeps : RowsKeep table
unfolding table
table_keeps =
    (λ c v. record { msip = refl; mtime = refl; mtimecmp = refl; steps = refl; external = refl }) &
    (λ c v. keeps_lines_same c) &
    (λ c v. record { msip = refl; mtime = refl; mtimecmp = refl; steps = refl; external = refl }) &
    (λ c v. record { msip = refl; mtime = refl; mtimecmp = refl; steps = refl; external = refl }) &
    (λ c v. record { msip = refl; mtime = refl; mtimecmp = refl; steps = refl; external = refl }) &
    (λ c v. record { msip = refl; mtime = refl; mtimecmp = refl; steps = refl; external = refl }) &
    (λ c v. record { msip = refl; mtime = refl; mtimecmp = refl; steps = refl; external = refl }) &
    (λ c v. record { msip = refl; mtime = refl; mtimecmp = refl; steps = refl; external = refl }) &
    (λ c v. keeps_lines_same c) &
    (λ c v. keeps_lines_same c) &
    (λ c v. keeps_lines_same c) &
    (λ c v. keeps_lines_same c) &
    (λ c v. keeps_lines_same c) &
    tt & tt & tt & tt & tt

by_write : (c : CsrState) (v : ℕ) (write : Option (CsrState → ℕ → CsrState)) → WriteKeeps write
    → KeepsLines c (option_map_or (λ f. f c v) write c)
by_write c v None k = keeps_lines_same c
by_write c v (Some write) k = k c v

by_row : (c : CsrState) (v : ℕ) (row : Option Row) → FoundKeeps row
    → KeepsLines c (option_map_or (λ write. write c v) (option_and_then (λ r. r.write) row) c)
by_row c v None k = keeps_lines_same c
by_row c v (Some row) k = by_write c v row.write k

-- a write of a CSR keeps the lines, the timer and the count of steps
pub keeps_lines_written : (c : CsrState) (n v : ℕ) → KeepsLines c (write_csr c n v)
unfolding write_csr write_at row_at
keeps_lines_written c n v =
    by_row c v (find (λ row. row.number == n) table) (found_keeps (λ row. row.number == n) table table_keeps)

-- and so does the return from a trap
pub keeps_lines_returned : (c : CsrState) → KeepsLines c (return_from_trap c)
unfolding return_from_trap
keeps_lines_returned c = record { msip = refl; mtime = refl; mtimecmp = refl; steps = refl; external = refl }
