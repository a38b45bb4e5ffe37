-- A notify sends so many chains, one after the other, and there is a reason why no more.
use Rattle.std.proofs.Common.{◌≡◌, ◌⊎◌, ℕ, ◌<◌, zero, suc, Option, Some, None, Result, Ok, Err, [], ◌++◌, refl, ap, sym, ◌∙◌, inl, inr, arith, append_assoc, subst}
use Rattle.virt_queue.specs.declared.fields.RingFault.{RingFault}
use Rattle.virt_queue.specs.Parts.{DescriptorChain}
use Rattle.virtio_mmio.specs.declared.kind.Served.{Served}
use Rattle.virtio_mmio.specs.declared.kind.Served.TheVariants.{Done, Idle, Broken}
use Rattle.virtio_net.specs.Port.{Port, send_queue, queue_of, next_of}
use Rattle.virtio_net.specs.Send.{Sending, served, send_by, send_chain, send_chains, follow_by, after_frames}
use Rattle.virtio_net.specs.Notify.{port_after, frames_of, answer_after, sent_by, IsLast, IsBroken, SendsChains, NotifySends}
use Rattle.virtio_net.proofs.SendLemmas.{send_live}

-- where there was no chain nothing changes
served_not_idle : (fault : Option RingFault) → served fault ≡ Idle → ⊥
served_not_idle None e = cc
served_not_idle (Some fault) e = cc

idle_by : (port : Port) (r : Result (Option DescriptorChain) RingFault) → (send_by port r).answer ≡ Idle →
    send_by port r ≡ (let none : Sending = record { port = port; frames = []; answer = Idle } in none)
idle_by port (Ok None) e = refl
idle_by port (Ok (Some chain)) e = absurd (served_not_idle _ e)
idle_by port (Err fault) e = cc

idle_step : (port : Port) → (send_chain port).answer ≡ Idle →
    send_chain port ≡ (let none : Sending = record { port = port; frames = []; answer = Idle } in none)
unfolding send_chain
idle_step port e = idle_by port (next_of port send_queue) e

done_after : (k : ℕ) → answer_after k Done ≡ Done
done_after zero = refl
done_after (suc k) = refl

each_more : (k : ℕ) (port : Port) → (send_chain port).answer ≡ Done →
    ((j : ℕ) → j < k → (send_chain (port_after j (send_chain port).port)).answer ≡ Done) →
    (j : ℕ) → j < suc k → (send_chain (port_after j port)).answer ≡ Done
unfolding port_after
each_more k port done each zero lt = done
each_more k port done each (suc j) lt = each j (omega arith)

-- the first chain, and what the others sent
sent_more : (port : Port) (rest : Sending) (k : ℕ) (so_far : Served) → rest ≡ sent_by k Done (send_chain port).port →
    after_frames (send_chain port).frames rest ≡ sent_by (suc k) so_far port
unfolding port_after frames_of
sent_more port rest k so_far e =
    ap (after_frames (send_chain port).frames) e
    ∙ (λ i. record {
      port = port_after k (send_chain port).port;
      frames = (send_chain port).frames ++ frames_of k (send_chain port).port;
      answer = done_after k i;
    })

broken_more : (port : Port) (rest : Sending) (k : ℕ) (fault : RingFault) →
    IsBroken k (send_chain port).port rest fault →
    IsBroken (suc k) port (after_frames (send_chain port).frames rest) fault
unfolding port_after frames_of
broken_more port rest k fault broken =
    let last = send_chain (port_after k (send_chain port).port) in (
      broken.0,
      ap (after_frames (send_chain port).frames) broken.1
          ∙ (λ i. record {
            port = last.port;
            frames = sym (append_assoc (send_chain port).frames (frames_of k (send_chain port).port) last.frames) i;
            answer = Broken fault;
          }),
    )

all_more : (n : ℕ) (port : Port) (rest : Sending) (k : ℕ) (so_far : Served) →
    (((k ≡ n) ⊎ IsLast k (send_chain port).port) × (rest ≡ sent_by k Done (send_chain port).port))
    ⊎ ((fault : RingFault) × IsBroken k (send_chain port).port rest fault) →
    (((suc k ≡ suc n) ⊎ IsLast (suc k) port)
    × (after_frames (send_chain port).frames rest ≡ sent_by (suc k) so_far port))
    ⊎ ((fault : RingFault) × IsBroken (suc k) port (after_frames (send_chain port).frames rest) fault)
unfolding port_after
all_more n port rest k so_far (inl (inl number, e)) = inl (inl (omega arith), sent_more port rest k so_far e)
all_more n port rest k so_far (inl (inr last, e)) = inl (inr last, sent_more port rest k so_far e)
all_more n port rest k so_far (inr (fault, broken)) = inr (fault, broken_more port rest k fault broken)

first_then : (n : ℕ) (so_far : Served) (port : Port) (rest : Sending) (a : Served) → (send_chain port).answer ≡ a →
    SendsChains n Done (send_chain port).port rest →
    SendsChains (suc n) so_far port (follow_by a (send_chain port) so_far rest)
unfolding port_after frames_of
first_then n so_far port rest Done e ih = record {
  k = suc ih.k;
  within = omega (arith, ih.within);
  each = each_more ih.k port e ih.each;
  all = all_more n port rest ih.k so_far ih.all;
}
first_then n so_far port rest Idle e ih = record {
  k = 0;
  within = omega arith;
  each = λ j lt. absurd (omega arith);
  all = inl (
    inr e,
    ap (λ (s : Sending). let idle : Sending = record s { answer = so_far } in idle)
        (idle_step port e),
  );
}
first_then n so_far port rest (Broken fault) e ih = record {
  k = 0;
  within = omega arith;
  each = λ j lt. absurd (omega arith);
  all = inr (fault, (e, (λ i. record (send_chain port) { answer = e i })));
}

chains_sent : (n : ℕ) (so_far : Served) (port : Port) → SendsChains n so_far port (send_chains n so_far port)
unfolding send_chains port_after frames_of
chains_sent zero so_far port = record {
  k = 0;
  within = omega arith;
  each = λ j lt. absurd (omega arith);
  all = inl (inl refl, refl);
}
chains_sent (suc n) so_far port =
    first_then n so_far port (send_chains n Done (send_chain port).port) (send_chain port).answer refl
    (chains_sent n Done (send_chain port).port)

pub notify_sends : (port : Port) → NotifySends port
notify_sends port works =
    let num = (queue_of port.card.device send_queue).num in
    let P : Sending → Type 0 = λ s. SendsChains num Idle port s in
    subst P (sym (send_live port works)) (chains_sent num Idle port)
