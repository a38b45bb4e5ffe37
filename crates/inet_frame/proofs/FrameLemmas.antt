-- A frame is a TCP segment exactly where the facts of `IsSegment` hold.
use Rattle.std.proofs.Common.{
  ◌≡◌,
  ℕ,
  Bool,
  true,
  false,
  cond,
  List,
  [],
  ◌∷◌,
  Option,
  None,
  Some,
  refl,
  ap,
  sym,
  arith,
  is_some,
  IsSome,
}
use Rattle.std.proofs.lemmas.Bool.Decides.{nat_tests}
use Rattle.shared_definitions.specs.FirstOf.{Case, first_of}
use Rattle.inet_frame.specs.Counted.{tcp_of, tcp_in}
use Rattle.inet_frame.specs.Fields.{TcpFields, ArpFields, UdpFields, arp_fields, udp_fields}
use Rattle.inet_frame.specs.Frame.{
  IsSegment,
  fields_in,
  drop_tests,
  drop_number,
  contents,
  seen_unless,
  seen_of,
  is_arp,
  carries_tcp,
}
use Rattle.inet_frame.specs.Place.{header_end, datagram_end}
use Rattle.inet_frame.specs.declared.parser.Seen.TheVariants.{Tcp, Arp, Udp}

-- no test of a list holds
abbrev AllFalse : List Case → Type 0
AllFalse [] = Unit {0}
AllFalse (test ∷ tests) = (test.1 ≡ false) × AllFalse tests

none_at : (n : ℕ) (holds : Bool) (tests : List Case) → cond holds (Some n) (first_of tests) ≡ None →
    (holds ≡ false) × (first_of tests ≡ None)
none_at n true tests h = absurd (cc)
none_at n false tests h = (refl, h)

none_all : (tests : List Case) → first_of tests ≡ None → AllFalse tests
none_all [] h = tt
none_all (test ∷ tests) h = let p = none_at test.0 test.1 tests h in (p.0, none_all tests p.1)

contents_by : (b : List ℕ) (k : Option ℕ) (t : TcpFields) → tcp_of (seen_unless b k) ≡ Some t →
    (k ≡ None) × (tcp_of (contents b) ≡ Some t)
contents_by b None t h = (refl, h)
contents_by b (Some n) t h = absurd (cc)

contents_tcp : (arp tcp : Bool) (a : ArpFields) (s : TcpFields) (u : UdpFields) (t : TcpFields) →
    tcp_of (cond arp (Arp a) (cond tcp (Tcp s) (Udp u))) ≡ Some t → (tcp ≡ true) × (s ≡ t)
contents_tcp true tcp a s u t h = absurd (cc)
contents_tcp false true a s u t h = (refl, cc)
contents_tcp false false a s u t h = absurd (cc)

-- what the tests say of a TCP frame that none of them drops
facts : (b : List ℕ) → carries_tcp b ≡ true → AllFalse (drop_tests b) → IsSegment b
facts b is tests = record {
  datagram = record {
    whole = grind (arith, nat_tests);
    fits = grind (arith, nat_tests);
    type_is = grind (arith, nat_tests);
    version_is = grind (arith, nat_tests);
    header = grind (arith, nat_tests);
    total = grind (arith, nat_tests);
    within = grind (arith, nat_tests);
    sum_is = grind (arith, nat_tests);
    unbroken = grind (arith, nat_tests);
    begins = refl;
    ends = refl;
    protocol_is = grind (arith, nat_tests);
  };
  holds = record {
    after_ip = grind (arith, nat_tests);
    header = grind (arith, nat_tests);
    payload = grind (arith, nat_tests);
    within = grind (arith, nat_tests);
    short = grind (arith, nat_tests);
  };
  sum_is = grind (arith, nat_tests);
}

pub tcp_in_facts : (b : List ℕ) (t : TcpFields) → tcp_in b ≡ Some t → IsSegment b × (fields_in b ≡ t)
unfolding seen_of
tcp_in_facts b t h =
    let by = contents_by b (drop_number b) t h in
    let is = contents_tcp (is_arp b) (carries_tcp b) (arp_fields b) (fields_in b) (udp_fields b (header_end b)
    (datagram_end b)) t by.1 in
    (facts b is.0 (none_all (drop_tests b) by.0), is.1)

pub tcp_in_segment : (b : List ℕ) → IsSegment b → tcp_in b ≡ Some (fields_in b)
unfolding seen_of
tcp_in_segment b s = grind (arith, nat_tests)

some_by : (b : List ℕ) (o : Option TcpFields) → tcp_in b ≡ o → is_some o ≡ true → IsSegment b
some_by b None e h = absurd (cc)
some_by b (Some t) e h = (tcp_in_facts b t e).0

pub some_segment : (b : List ℕ) → IsSome (tcp_in b) → IsSegment b
some_segment b h = some_by b (tcp_in b) refl h

pub tcp_in_seen : (b : List ℕ) (t : TcpFields) → Tcp t ≡ seen_of b → tcp_in b ≡ Some t
tcp_in_seen b t e = ap tcp_of (sym e)
