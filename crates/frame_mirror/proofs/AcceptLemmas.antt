-- What is kept of an accepted frame.
use Rattle.std.proofs.Common.{◌≡◌, ℕ, ◌==◌, Bool, true, false, cond, List, length, Option, None, Some, refl, sym, ap, subst, ◌∙◌, arith}
use Rattle.std.proofs.lemmas.Bool.{false≢true}
use Rattle.std.specs.Prelude.{IsSome}
use Rattle.shared_definitions.specs.Bytes.{AreBytes}
use Rattle.inet_frame.specs.Arp.{reply_bytes}
use Rattle.inet_frame.specs.Counted.{tcp_in, tcp_of, client_tuple_of, guest_address, guest_mac}
use Rattle.inet_frame.specs.Fields.{TcpFields}
use Rattle.inet_frame.specs.Flags.{has_syn}
use Rattle.inet_frame.specs.Frame.{seen_of}
use Rattle.inet_frame.specs.declared.parser.Seen.{Seen}
use Rattle.inet_frame.specs.declared.parser.Seen.TheVariants.{Tcp, Arp, Udp, Other}
use Rattle.inet_frame.proofs.FieldLemmas.{length_fits}
use Rattle.inet_frame.proofs.FrameLemmas.{tcp_in_facts}
use Rattle.inet_build.specs.Edit.{clean_syn, clean_syn_fields}
use Rattle.inet_build.specs.Options.{clean_options}
use Rattle.inet_build.proofs.CleanLemmas.{clean_syn_twice, AreBytes-clean_syn}
use Rattle.inet_build.proofs.LawLemmas.{clean_keeps}
use Rattle.frame_mirror.specs.Accepted.{entry_of, entry_of_seen, is_accepted, is_for_guest, is_to_guest, other_destination, udp_frame}
use Rattle.frame_mirror.specs.Laws.{AcceptedIsKept, KeptIsAccepted}
use Rattle.frame_mirror.specs.declared.ingress.Entry.TheVariants.{Frame, Answer}

-- a frame that is accepted is a TCP segment to the guest
record IsSegmentToGuest (b kept : List ℕ) (s : Seen) : Type 0 where
  pub fields : TcpFields
  pub seen : s ≡ Tcp fields
  pub to_guest : is_to_guest fields.dst_mac fields.dst ≡ true
  pub clean : kept ≡ clean_syn b

segment_by : (to_guest : Bool) (b kept : List ℕ) (t : TcpFields) → is_to_guest t.dst_mac t.dst ≡ to_guest →
    cond to_guest (Frame (clean_syn b)) other_destination ≡ Frame kept → IsSegmentToGuest b kept (Tcp t)
segment_by true b kept t is e = record { fields = t; seen = refl; to_guest = is; clean = cc }
segment_by false b kept t is e = absurd (cc)

no_udp : (c : Bool) (kept : List ℕ) → cond c udp_frame other_destination ≡ Frame kept → ⊥
no_udp true kept h = cc
no_udp false kept h = cc

no_answer : (c : Bool) (kept reply : List ℕ) → cond c (Answer reply) other_destination ≡ Frame kept → ⊥
no_answer true kept reply h = cc
no_answer false kept reply h = cc

segment_in : (b kept : List ℕ) (s : Seen) → entry_of_seen b s ≡ Frame kept → IsSegmentToGuest b kept s
unfolding entry_of_seen
segment_in b kept (Tcp t) e = segment_by (is_to_guest t.dst_mac t.dst) b kept t refl e
segment_in b kept (Udp u) e = absurd (no_udp (is_to_guest u.dst_mac u.dst) kept e)
segment_in b kept (Arp a) e = absurd (no_answer (a.target == guest_address) kept (reply_bytes a guest_mac) e)
segment_in b kept (Other why) e = absurd (cc)

-- cleaning keeps the connection and the destination
same_tuple_by : (syn : Bool) (t : TcpFields) (options : List ℕ) →
    client_tuple_of (cond syn (record t { options = options }) t) ≡ client_tuple_of t
same_tuple_by true t options = refl
same_tuple_by false t options = refl

to_guest_by : (syn : Bool) (t : TcpFields) (options : List ℕ) →
    is_to_guest (cond syn (record t { options = options }) t).dst_mac (cond syn (record t { options = options }) t).dst
    ≡ is_to_guest t.dst_mac t.dst
to_guest_by true t options = refl
to_guest_by false t options = refl

pub accepted_is_kept : AcceptedIsKept
unfolding entry_of
accepted_is_kept b kept bytes e =
    let s = segment_in b kept (seen_of b) e in
    let parsed : tcp_in b ≡ Some s.fields = ap tcp_of s.seen in
    let keeps = clean_keeps b s.fields bytes parsed in
    let fits = length_fits b s.fields parsed in
    let is : clean_syn b ≡ kept = sym s.clean in
    let B : List ℕ → Type 0 = λ xs. AreBytes xs in
    let len : length kept ≡ length b = ap length s.clean ∙ keeps.1 in
    record {
      fields = s.fields;
      parsed = parsed;
      clean = s.clean;
      still_tcp = ap tcp_in s.clean ∙ keeps.0;
      same_tuple = same_tuple_by (has_syn s.fields.flags) s.fields (clean_options s.fields.options);
      to_guest = s.to_guest;
      bytes = subst B is (AreBytes-clean_syn b bytes);
      at_least = omega (arith, fits.0);
      at_most = omega (arith, fits.1);
    }

-- a frame whose fields are known is a segment by what it is
seen_from : (s : Seen) (t : TcpFields) → tcp_of s ≡ Some t → s ≡ Tcp t
seen_from (Tcp u) t e = ap (λ (o : Option TcpFields). seen_with o) e
  where
    seen_with : Option TcpFields → Seen
    seen_with None = Tcp u
    seen_with (Some v) = Tcp v
seen_from (Udp u) t e = absurd (cc)
seen_from (Arp a) t e = absurd (cc)
seen_from (Other w) t e = absurd (cc)

entry_from : (b : List ℕ) (s : Seen) (t : TcpFields) → s ≡ Tcp t → is_to_guest t.dst_mac t.dst ≡ true →
    entry_of_seen b s ≡ Frame (clean_syn b)
unfolding entry_of_seen
entry_from b s t is to_guest =
    ap (λ (u : Seen). entry_of_seen b u) is
    ∙ ap (λ (c : Bool). cond c (Frame (clean_syn b)) other_destination) to_guest

pub kept_is_accepted : KeptIsAccepted
unfolding entry_of
kept_is_accepted b kept bytes e =
    let k = accepted_is_kept b kept bytes e in
    let t = clean_syn_fields k.fields in
    let to_guest = to_guest_by (has_syn k.fields.flags) k.fields (clean_options k.fields.options) ∙ k.to_guest in
    let segment = (tcp_in_facts b k.fields k.parsed).0 in
    let again : clean_syn kept ≡ kept =
    ap clean_syn k.clean ∙ (clean_syn_twice b segment ∙ sym k.clean) in
    entry_from kept (seen_of kept) t (seen_from (seen_of kept) t k.still_tcp) to_guest
    ∙ ap (λ (xs : List ℕ). Frame xs) again

-- ---- frames that are accepted as they are

segment_of : (o : Option TcpFields) → is_for_guest o ≡ true → IsSome o
segment_of None e = absurd (false≢true e)
segment_of (Some t) e = refl

pub accepted_is_segment : (frame : List ℕ) → is_accepted frame ≡ true → IsSome (tcp_in frame)
accepted_is_segment frame e = segment_of (tcp_in frame) e

-- what is kept of a frame that is accepted
pub kept_is_accepted_as_it_is : (b kept : List ℕ) → AreBytes b → entry_of b ≡ Frame kept → is_accepted kept ≡ true
kept_is_accepted_as_it_is b kept bytes e =
    let k = accepted_is_kept b kept bytes e in
    ap is_for_guest k.still_tcp
    ∙ (to_guest_by (has_syn k.fields.flags) k.fields (clean_options k.fields.options) ∙ k.to_guest)
