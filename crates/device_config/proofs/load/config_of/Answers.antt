use Rattle.std.proofs.Common.{◌≡◌, Err, ap, arith, subst}
use Rattle.journal_core.specs.Region.{region_size}
use Rattle.device_config.specs.Image.{journal_region}
use Rattle.device_config.specs.declared.fault.ConfigFault.{ConfigFault}
use Rattle.device_config.specs.Answers.{IsFound}
use Rattle.device_config.proofs.Images.{without_head, without_config, without_room, with_room}
use Rattle.device_config.proofs.load.config_of.Goals as goal

pub returns-in_default-clause-loaded : goal.returns-in_default-clause-loaded
returns-in_default-clause-loaded c = λ image size front. without_head image c.args.head.now front c.in_default.ensures

pub returns-in-Err-BadConfig-clause-loaded : goal.returns-in-Err-BadConfig-clause-loaded
returns-in-Err-BadConfig-clause-loaded c = λ image size front. without_config image c.args.head.now front c.in-Some.bytes.now c.in-Some.ensures
    (λ v is. subst (λ (e : ConfigFault). IsFound (Err e) v) c.in-Err-BadConfig.field-0-is (c.in-Err-BadConfig.ensures.only v is))

pub returns-then-size-clause-loaded : goal.returns-then-size-clause-loaded
returns-then-size-clause-loaded c = λ image size front. without_room image c.args.head.now front c.in-Some.bytes.now c.in-Some.ensures c.in-Ok.config c.in-Ok.ensures.found
    (let room : region_size c.journal_of.result ≡ region_size (journal_region c.in-Ok.config.quota) = ap region_size c.journal_of.ensures.region in omega (arith, size, room))

pub returns-clause-loaded : goal.returns-clause-loaded
returns-clause-loaded c = λ image size front. with_room image c.args.head.now front c.in-Some.bytes.now c.in-Some.ensures c.in-Ok.config c.in-Ok.ensures.found
    (let room : region_size c.journal_of.result ≡ region_size (journal_region c.in-Ok.config.quota) = ap region_size c.journal_of.ensures.region in omega (arith, size, room))
