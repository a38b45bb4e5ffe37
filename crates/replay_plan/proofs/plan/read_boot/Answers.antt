-- The bytes of the files make a start.
use Rattle.std.proofs.Common.{◌≡◌, Ok, arith}
use Rattle.std.proofs.lemmas.Result.{IfOk-weaker}
use Rattle.shared_definitions.specs.Bytes.{AreBytes}
use Rattle.guest_machine.specs.Guest.{machine_meaning}
use Rattle.pair_theorem.specs.Starts.{IsStart}
use Rattle.command_inputs.specs.Start.{read_start}
use Rattle.replay_plan.specs.ReplayPlan.{start_with}
use Rattle.replay_plan.proofs.StartLemmas.{starts_there}
use Rattle.replay_plan.proofs.plan.read_boot.Goals as goal

pub returns-clause-starts : goal.returns-clause-starts
returns-clause-starts c =
    let image = c.args.image.now in
    let disk = c.args.disk.now in
    let client = c.args.client.now in
    let image_bytes : AreBytes image = λ i. omega (arith, c.type_inv.image i) in
    let disk_bytes : AreBytes disk = λ i. omega (arith, c.type_inv.disk i) in
    let client_bytes : AreBytes client = λ i. omega (arith, c.type_inv.client i) in
    IfOk-weaker c.read_start.result
    (λ started. read_start c.args.mib image disk client
    ≡ Ok (record { machine = machine_meaning started.machine; frames = started.frames }))
    (λ started. IsStart (start_with (record { machine = machine_meaning started.machine; frames = started.frames })))
    (λ started read. starts_there c.machines_start.ensures c.args.mib image disk client image_bytes disk_bytes
    client_bytes c.reads_machines.ensures c.reads_clients.ensures
    (record { machine = machine_meaning started.machine; frames = started.frames }) read) c.read_start.ensures.read
