use Rattle.std.proofs.Common.{◌≡◌, ◌/◌, ◌++◌, ℕ, List, length, take, drop, sym, ap, arith, take-append-drop}
use Rattle.std.proofs.lemmas.Grind.{common_steps}
use Rattle.outside_core.specs.Stream.{Stream}
use Rattle.http_link.proofs.memory_link.MemoryLinkLink.write.Goals as goal

pub returns-in-Ok-extend-clause-contents : goal.returns-in-Ok-extend-clause-contents
returns-in-Ok-extend-clause-contents c =
    let m = c.args.self.now in
    let b = c.args.bytes.now in
    let half = take (length b / 2) b in
    let is : c.extend-2.new.self ≡ m.sent ++ half = grind (arith, common_steps, c.in-Ok-extend.ensures.ok) in (
      half,
      (drop (length b / 2) b, sym (take-append-drop (length b / 2) b)),
      ap (λ (s : List ℕ). let it : Stream = record { taken = m.taken; rest = drop m.taken m.input; sent = s } in it) is,
    )
