-- A pair that stands for a past, written out by it: the node of an event, the links and the counts.
use Rattle.std.proofs.Common.{◌≡◌, ℕ, Bool, List, [], sym, ◌∙◌}
use Rattle.state_wire.specs.Guest.{Kind}
use Rattle.node_secondary.specs.Node.{Node}
use Rattle.node_secondary.specs.Survivor.{Survivor, alone, guest_of, hears}
use Rattle.pair_core.specs.Pair.{Pair}
use Rattle.pair_theorem.specs.Past.{Past}
use Rattle.pair_history.specs.Standing.{PrimaryStands, SecondaryStands, Stands, SurvivorStands, guest_in}

-- but for the nodes, and with the second node's parts by the past
abbrev pub links_of : List (List ℕ) → Past → Pair → Pair
links_of stream past w = record w {
  down = past.to_secondary;
  up = past.to_primary;
  frames = stream;
  next = past.next;
  is_reported = past.is_reported;
  sent_heard = past.sent_heard;
}

abbrev pub primary_pair : Kind → List (List ℕ) → Past → Bool → Bool → Pair → Pair
primary_pair kind stream past awaits lone w = record (links_of stream past w) {
  first = record {
    guest = guest_in kind past.primary past.primary_turned;
    inbox = past.primary_inbox;
    comparing = record w.first.comparing { is_alone = lone };
    waits = [];
    captures = past.captures;
    awaits = awaits;
  };
}

pub primary_pair_is : (kind : Kind) (stream : List (List ℕ)) (past : Past) (awaits lone : Bool) (w : Pair)
    → Stands kind stream past w → PrimaryStands past w.first → past.awaits_ack ≡ awaits → past.is_reported ≡ lone
    → w ≡ primary_pair kind stream past awaits lone w
primary_pair_is kind stream past awaits lone w h p a b = λ i. record {
  first = record {
    guest = h.first_guest i;
    inbox = p.inbox i;
    comparing = record w.first.comparing { is_alone = (p.compares.alone ∙ b) i };
    waits = p.waits i;
    captures = p.captures i;
    awaits = (p.awaits ∙ a) i;
  };
  second = w.second;
  down = h.down i;
  up = h.up i;
  frames = h.frames i;
  next = h.next i;
  stopped = w.stopped;
  is_reported = h.reported i;
  sent_heard = h.sent_heard i;
}

-- a secondary that hears
abbrev pub hears_pair : Kind → List (List ℕ) → Past → Node → Pair → Pair
hears_pair kind stream past n w = record (links_of stream past w) {
  second = hears (record n {
    guest = guest_in kind past.secondary past.secondary_turned;
    inbox = past.secondary_inbox;
    waits = [];
  });
}

pub hears_pair_is : (kind : Kind) (stream : List (List ℕ)) (past : Past) (n : Node) (w : Pair)
    → Stands kind stream past w → w.second ≡ hears n → SecondaryStands kind past n
    → w ≡ hears_pair kind stream past n w
hears_pair_is kind stream past n w h is s =
    (λ i. record (links i) { second = is i }) ∙ (λ i. record (links_of stream past w) {
      second = hears (record n { guest = guest i; inbox = s.inbox i; waits = s.waits i });
    })
  where
    links : w ≡ links_of stream past w
    links = λ i. record w {
      down = h.down i;
      up = h.up i;
      frames = h.frames i;
      next = h.next i;
      is_reported = h.reported i;
      sent_heard = h.sent_heard i;
    }

    guest : n.guest ≡ guest_in kind past.secondary past.secondary_turned
    guest = (λ i. guest_of (sym is i)) ∙ h.second_guest

-- a survivor
abbrev pub alone_pair : Kind → List (List ℕ) → Past → Survivor → Pair → Pair
alone_pair kind stream past n w = record (links_of stream past w) {
  second = alone (record n {
    guest = guest_in kind past.secondary past.secondary_turned;
    inbox = past.secondary_inbox;
  });
}

pub alone_pair_is : (kind : Kind) (stream : List (List ℕ)) (past : Past) (n : Survivor) (w : Pair)
    → Stands kind stream past w → w.second ≡ alone n → SurvivorStands past n
    → w ≡ alone_pair kind stream past n w
alone_pair_is kind stream past n w h is s =
    (λ i. record (links i) { second = is i }) ∙ (λ i. record (links_of stream past w) {
      second = alone (record n { guest = guest i; inbox = s.inbox i });
    })
  where
    links : w ≡ links_of stream past w
    links = λ i. record w {
      down = h.down i;
      up = h.up i;
      frames = h.frames i;
      next = h.next i;
      is_reported = h.reported i;
      sent_heard = h.sent_heard i;
    }

    guest : n.guest ≡ guest_in kind past.secondary past.secondary_turned
    guest = (λ i. guest_of (sym is i)) ∙ h.second_guest
