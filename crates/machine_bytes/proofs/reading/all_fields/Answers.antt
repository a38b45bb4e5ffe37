use Rattle.std.proofs.Common.{◌≡◌, ℕ, ◌-◌, List, length, drop, take, ap, ◌∙◌}
use Rattle.std.proofs.lemmas.List.{take_rest}
use Rattle.virt_queue.specs.Queue.{no_queue}
use Rattle.machine_bytes.specs.Reading.{fields_in, number_at, words_of, csrs_of, queue_of, device_of}
use Rattle.machine_bytes.proofs.reading.all_fields.Goals as goal

pub returns : goal.returns
unfolding fields_in
returns c =
    let b = c.args.bytes.now in
    let rest : (k : ℕ) → take (length b - k) (drop k b) ≡ drop k b = λ k. take_rest b k in
    let pc : c.word_at.result ≡ number_at 4 b 0 = c.word_at.ensures in
    let x : c.registers_of.result ≡ words_of 31 (drop 4 b) = c.registers_of.ensures ∙ ap (words_of 31) (rest 4) in
    let reserved : c.byte_at.result ≡ number_at 1 b 184 = c.byte_at.ensures in
    let address : c.word_at-2.result ≡ number_at 4 b 185 = c.word_at-2.ensures in
    let csrs : c.csrs_of.result ≡ csrs_of (drop 128 b) = c.csrs_of.ensures ∙ ap csrs_of (rest 128) in
    let receives : c.queue_of.result ≡ queue_of (drop 217 b) = c.queue_of.ensures ∙ ap queue_of (rest 217) in
    let sends : c.queue_of-2.result ≡ queue_of (drop 253 b) = c.queue_of-2.ensures ∙ ap queue_of (rest 253) in
    let net : c.device_of.result ≡ device_of (drop 189 b) c.queue_of.result c.queue_of-2.result =
    c.device_of.ensures ∙ ap (λ (part : List ℕ). device_of part c.queue_of.result c.queue_of-2.result) (rest 189) in
    let neighbour : c.copy_from_slice.new.self ≡ take 6 (drop 289 b) = c.copy_from_slice.ensures.after in
    let serves : c.queue_of-3.result ≡ queue_of (drop 323 b) = c.queue_of-3.ensures ∙ ap queue_of (rest 323) in
    let block : c.device_of-2.result ≡ device_of (drop 295 b) c.queue_of-3.result no_queue =
    c.device_of-2.ensures ∙ ap (λ (part : List ℕ). device_of part c.queue_of-3.result no_queue) (rest 295) in
    rw (pc, x, reserved, address, csrs, net, receives, sends, neighbour, block, serves)
