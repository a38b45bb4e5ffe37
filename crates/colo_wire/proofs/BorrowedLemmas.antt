-- Messages of so many bytes have a spelling.
use Rattle.std.proofs.Common.{◌≡◌, ℕ, suc, ◌+◌, ◌-◌, ◌%◌, ◌≤◌, true, List, length, Option, None, Some, refl, ap, arith}
use Rattle.std.proofs.lemmas.Nat.{mod_below}
use Rattle.shared_definitions.specs.Bytes.{AreBytes}
use Rattle.tcp_track.specs.declared.openings.Opening.{Opening}
use Rattle.colo_wire.specs.Forms.{waiting_places}
use Rattle.colo_wire.specs.Places.{follows}
use Rattle.colo_wire.specs.Spelling.{IsMessage, IsPart, IsWaiting, waiting_body}
use Rattle.colo_wire.specs.declared.messages.Message.TheVariants.{Frame, State, Page, Disk, Held, Bytes, Sent}

one_step : (n : ℕ) → n % 1 ≡ 0
one_step n = omega (arith, mod_below n 1 (omega arith))

pub state_is_message : (bytes : List ℕ) → AreBytes bytes → length bytes ≤ 16777216 → IsMessage (State bytes)
state_is_message bytes ranges most = record {
  spelled = record {
    length = record { from = omega arith; to = most; stepped = one_step (length bytes - 0) };
    places = refl;
  };
  ranges = ranges;
}

pub page_is_message : (k : ℕ) (bytes : List ℕ) → IsPart k bytes → length bytes ≡ 4096 → IsMessage (Page k bytes)
page_is_message k bytes ranges size = record {
  spelled = record {
    length = record {
      from = omega (arith, size);
      to = omega (arith, size);
      stepped = one_step (suc (suc (suc (suc (length bytes)))) - 4100);
    };
    places = refl;
  };
  ranges = ranges;
}

pub disk_is_message : (first : ℕ) (bytes : List ℕ) → IsPart first bytes → 512 ≤ length bytes → length bytes ≤ 65536 →
    length bytes % 512 ≡ 0 → IsMessage (Disk first bytes)
disk_is_message first bytes ranges least most whole = record {
  spelled = record {
    length = record {
      from = omega (arith, least);
      to = omega (arith, most);
      stepped = omega (arith, least, whole);
    };
    places = refl;
  };
  ranges = ranges;
}

pub bytes_is_message : (bytes : List ℕ) → AreBytes bytes → 1 ≤ length bytes → length bytes ≤ 65536 →
    IsMessage (Bytes bytes)
bytes_is_message bytes ranges least most = record {
  spelled = record {
    length = record { from = least; to = most; stepped = one_step (length bytes - 1) };
    places = refl;
  };
  ranges = ranges;
}

pub sent_is_message : (frame : List ℕ) → AreBytes frame → 14 ≤ length frame → length frame ≤ 1514 →
    IsMessage (Sent frame)
sent_is_message frame ranges least most = record {
  spelled = record {
    length = record { from = least; to = most; stepped = one_step (length frame - 14) };
    places = refl;
  };
  ranges = ranges;
}

-- ---- a waiting frame

pub waiting_length : (index : ℕ) (seen : Option Opening) (trim : ℕ) (frame : List ℕ) →
    length (waiting_body index seen trim frame) ≡ 21 + length frame
unfolding waiting_body
waiting_length index None trim frame = omega arith
waiting_length index (Some o) trim frame = omega arith

waiting_follows : (index : ℕ) (seen : Option Opening) (trim : ℕ) (frame : List ℕ) → (seen ≡ None → trim ≡ 0) →
    follows waiting_places 0 (waiting_body index seen trim frame) ≡ true
unfolding waiting_body
waiting_follows index None trim frame untrimmed =
    ap (λ (t : ℕ). follows waiting_places 0 (waiting_body index None t frame)) (untrimmed refl)
waiting_follows index (Some o) trim frame untrimmed = refl

pub frame_is_message : (index : ℕ) (seen : Option Opening) (trim : ℕ) (frame : List ℕ) →
    IsWaiting index seen trim frame → 14 ≤ length frame → length frame ≤ 1514 → (seen ≡ None → trim ≡ 0) →
    IsMessage (Frame index seen trim frame)
frame_is_message index seen trim frame ranges least most untrimmed =
    let long = waiting_length index seen trim frame in record {
      spelled = record {
        length = record {
          from = omega (arith, least, long);
          to = omega (arith, most, long);
          stepped = one_step (length (waiting_body index seen trim frame) - 35);
        };
        places = waiting_follows index seen trim frame untrimmed;
      };
      ranges = ranges;
    }

pub held_is_message : (index : ℕ) (seen : Option Opening) (trim : ℕ) (frame : List ℕ) →
    IsWaiting index seen trim frame → 14 ≤ length frame → length frame ≤ 1514 → (seen ≡ None → trim ≡ 0) →
    IsMessage (Held index seen trim frame)
held_is_message index seen trim frame ranges least most untrimmed =
    let m = frame_is_message index seen trim frame ranges least most untrimmed in record {
      spelled = record {
        length = record { from = m.spelled.length.from; to = m.spelled.length.to; stepped = m.spelled.length.stepped };
        places = m.spelled.places;
      };
      ranges = ranges;
    }
