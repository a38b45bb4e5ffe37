-- What a list of sent segments says: the current opening of a tuple, the symbols, resets and
-- refusals that stand, and what was acknowledged.
use Rattle.std.specs.Prelude.{◌≡◌, ℕ, Bool, true, false, not, ◌&&◌, ◌||◌, ◌==◌, nat_lt, max, if◌then◌else◌, List, [], ◌∷◌, ◌++◌, fold, filter_map, Option, None, Some}
use Rattle.inet_frame.specs.Counted.{counted, tuple_of}
use Rattle.inet_frame.specs.Fields.{TcpFields}
use Rattle.inet_frame.specs.Flags.{has_rst, has_ack}
use Rattle.inet_frame.specs.declared.tuple.Tuple.{Tuple}
use Rattle.tcp_track.specs.Offsets.{distance}
use Rattle.tcp_track.specs.declared.offsets.TheConstants.{OFFSET_BOUND}
use Rattle.tcp_track.specs.Segments.{Symbol, same_tuple, same_symbol, may_open, opening_in, is_refusal, refused_in, symbol_in}
use Rattle.tcp_track.specs.declared.openings.Opening.{Opening}

-- the segments of the frames that count
abbrev pub segments : List (List ℕ) → List TcpFields
segments frames = filter_map counted frames

-- the current opening of a tuple is that of the last segment on it that opens
abbrev pub opening_after : Tuple → Option Opening → TcpFields → Option Opening
opening_after t current s = if same_tuple (tuple_of s) t && may_open s then Some
    (opening_in s) else current

unfoldable pub opening_of : Tuple → List TcpFields → Option Opening
opening_of t sent = fold (opening_after t) None sent

-- A segment on the tuple carries the symbol at this offset, and the opening that is current at it
-- is one of this client.
pub record Stands (sent : List TcpFields) (t : Tuple) (client offset : ℕ)
    (symbol : Symbol) : Type 0 where
  pub before : List TcpFields
  pub carrier : TcpFields
  pub later : List TcpFields
  pub own : ℕ
  pub place : sent ≡ before ++ carrier ∷ later
  pub on : tuple_of carrier ≡ t
  pub opened : opening_of t (before ++ carrier ∷ []) ≡ Some (record { client = client; own = own })
  pub carries : symbol_in own carrier offset ≡ Some symbol

-- A segment with RST that is no refusal is on the tuple while an opening of this client is current.
pub record ResetStands (sent : List TcpFields) (t : Tuple) (client : ℕ) : Type 0 where
  pub before : List TcpFields
  pub carrier : TcpFields
  pub later : List TcpFields
  pub own : ℕ
  pub place : sent ≡ before ++ carrier ∷ later
  pub on : tuple_of carrier ≡ t
  pub opened : opening_of t before ≡ Some (record { client = client; own = own })
  pub resets : has_rst carrier.flags ≡ true
  pub no_refusal : is_refusal carrier ≡ false

-- A segment on the tuple refuses this client.
pub record RefusalStands (sent : List TcpFields) (t : Tuple) (client : ℕ) : Type 0 where
  pub before : List TcpFields
  pub carrier : TcpFields
  pub later : List TcpFields
  pub place : sent ≡ before ++ carrier ∷ later
  pub on : tuple_of carrier ≡ t
  pub refuses : is_refusal carrier ≡ true
  pub names : refused_in carrier ≡ client

-- whether a symbol stands, as a test that goes over the segments with the current opening
abbrev pub is_symbol : Option Symbol → Symbol → Bool
is_symbol None x = false
is_symbol (Some y) x = same_symbol y x

abbrev pub carries_here : Tuple → ℕ → ℕ → Symbol → Option Opening → TcpFields → Bool
carries_here t client offset symbol None s = false
carries_here t client offset symbol (Some o) s = same_tuple (tuple_of s) t &&
    (o.client == client && is_symbol (symbol_in o.own s offset) symbol)

abbrev pub stands_from : Tuple → ℕ → ℕ → Symbol → Option Opening → List TcpFields → Bool
stands_from t client offset symbol o [] = false
stands_from t client offset symbol o (s ∷ sent) = carries_here t client offset symbol
    (opening_after t o s) s || stands_from t client offset symbol (opening_after t o s) sent

abbrev pub stands : List TcpFields → Tuple → ℕ → ℕ → Symbol → Bool
stands sent t client offset symbol = stands_from t client offset symbol None sent

-- the greater of what was acknowledged before and what a segment acknowledges, where it has ACK and
-- that is below the bound
abbrev pub acked_after : ℕ → ℕ → TcpFields → ℕ
acked_after acked client s = if has_ack s.flags && nat_lt
    (distance client s.ack) OFFSET_BOUND then max acked (distance client s.ack) else acked

abbrev pub is_of_client : Option Opening → ℕ → Bool
is_of_client None client = false
is_of_client (Some o) client = o.client == client

-- the current opening, and the greatest acknowledgement so far in segments without RST while it was
-- of the client
pub record Acking : Type 0 where
  pub opening : Option Opening
  pub acked : ℕ

-- a segment without RST on the tuple, while the opening is of the client
abbrev pub acks_here : Tuple → ℕ → Option Opening → TcpFields → Bool
acks_here t client current s =
    same_tuple (tuple_of s) t && (not (has_rst s.flags) && is_of_client current client)

abbrev pub acking_after : Tuple → ℕ → Acking → TcpFields → Acking
acking_after t client a s =
    let current = opening_after t a.opening s in
    record {
      opening = current;
      acked = if acks_here t client current s then acked_after a.acked client s else a.acked;
    }

-- how far the sent segments acknowledge a client's connection, from its SYN on; 0 where none does
unfoldable pub acked_in : List TcpFields → Tuple → ℕ → ℕ
acked_in sent t client = (fold (acking_after t client)
    (record { opening = None; acked = 0 }) sent).acked
