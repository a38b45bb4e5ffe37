-- A name as it is written: after a name of the A extension `.w` and the order bits stand.
use Rattle.std.specs.Prelude.{ℕ, Bool, true, false, List, ◌∷◌, ◌++◌, Option, Some, None, codes, if◌then◌else◌, option_and_then}
use Rattle.std.specs.List.{find}
use Rattle.std.specs.Str.{bytes_eq}
use Rattle.shared_definitions.specs.Ascii.{full_stop}
use Rattle.ascii_text.specs.Cuts.{Halves, cut}
use Rattle.rv_forms.specs.declared.mnemonic.Mnemonic as code
use Rattle.rv_forms.specs.declared.names.Name as named_code
use Rattle.rv_forms.specs.Forms.{is_ordered}
use Rattle.rv_forms.specs.Mnemonics.{Mnemonic, row, mnemonics}

-- a mnemonic as the code keeps it
abbrev pub mnemonic : code.Mnemonic → Mnemonic
mnemonic m = row m.name.now m.syntax m.value

-- the order bits, acquire and release, as they are written
abbrev pub order_text : Bool → Bool → List ℕ
order_text false false = codes "w"
order_text true false = codes "w.aq"
order_text false true = codes "w.rl"
order_text true true = codes "w.aqrl"

abbrev pub name_text : Mnemonic → Bool → Bool → List ℕ
name_text m aq rl = if is_ordered m.syntax then m.name ++ full_stop ∷ order_text aq rl else m.name

-- a mnemonic with its order bits
pub record Name : Type 0 where
  pub mnemonic : Mnemonic
  pub aq : Bool
  pub rl : Bool

-- a name as the code keeps it
abbrev pub name : named_code.Name → Name
name n = record { mnemonic = mnemonic n.mnemonic; aq = n.aq; rl = n.rl }

-- the order bits that a text writes
abbrev pub order_of : List ℕ → Option (Bool × Bool)
order_of text =
    if bytes_eq text (codes "w") then Some (false, false)
    else (if bytes_eq text (codes "w.aq") then Some (true, false)
    else (if bytes_eq text (codes "w.rl") then Some (false, true)
    else (if bytes_eq text (codes "w.aqrl") then Some (true, true) else None)))

abbrev pub order_after : Option (List ℕ) → Option (Bool × Bool)
order_after None = None
order_after (Some text) = order_of text

-- the mnemonic with this name, its order bits left out
unfoldable pub named : List ℕ → Option Mnemonic
named name = find (λ m. bytes_eq m.name name) mnemonics

-- the order bits stand after the names of the A extension alone
abbrev pub with_order : Option (Bool × Bool) → Mnemonic → Option Name
with_order None m = if is_ordered m.syntax then None
    else Some (record { mnemonic = m; aq = false; rl = false })
with_order (Some order) m = if is_ordered m.syntax
    then Some (record { mnemonic = m; aq = order.0; rl = order.1 }) else None

abbrev pub base_of : Option (Bool × Bool) → List ℕ → List ℕ → List ℕ
base_of None text front = text
base_of (Some _) text front = front

-- the mnemonic and the order bits that a text names, where it is cut at its first full stop
abbrev pub name_by : List ℕ → Halves → Option Name
name_by text halves =
    let order = order_after halves.after in
    option_and_then (with_order order) (named (base_of order text halves.before))

unfoldable pub name_of : List ℕ → Option Name
name_of text = name_by text (cut full_stop text)
