use Rattle.std.proofs.Common.{◌≡◌, List, None, Some, Err, sym, ap, ◌∙◌}
use Rattle.teep_tool.specs.Contents.{Contents}
use Rattle.teep_tool.specs.Memory.{contents, works, file_in}
use Rattle.teep_tool.specs.declared.memory_host.Named.{Named}
use Rattle.teep_tool.proofs.Answered.{read_given, answer_given, answer_none}
use Rattle.teep_tool.proofs.memory_host.MemoryHostHost.read_file.Goals as goal

pub returns-in-Some-clause-contents : goal.returns-in-Some-clause-contents
returns-in-Some-clause-contents c =
    let is : file_in c.begins.new.self.files c.args.name.now ≡ Some c.in-Some.bytes.now = ap (λ (fs : List Named). file_in fs c.args.name.now) (sym c.as_slice.ensures) ∙ sym c.in-Some.ensures in
    read_given c.args.name.now c.copied.result (contents c.args.self.now) (contents c.begins.new.self) c.in-Some.bytes.now c.begins.ensures.contents is c.copied.ensures.gives

pub returns-in-Some-clause-answer : goal.returns-in-Some-clause-answer
returns-in-Some-clause-answer c =
    let is : file_in c.begins.new.self.files c.args.name.now ≡ Some c.in-Some.bytes.now = ap (λ (fs : List Named). file_in fs c.args.name.now) (sym c.as_slice.ensures) ∙ sym c.in-Some.ensures in
    let before : file_in c.args.self.now.files c.args.name.now ≡ Some c.in-Some.bytes.now = ap (λ (h : Contents). h.files c.args.name.now) (sym c.begins.ensures.contents) ∙ is in
    answer_given (works c.args.self.now) (file_in c.args.self.now.files c.args.name.now) c.in-Some.bytes.now c.copied.result (sym c.begins.ensures.works ∙ c.if-not-begins.false) before c.copied.ensures.fault

pub returns-in-None-clause-answer : goal.returns-in-None-clause-answer
returns-in-None-clause-answer c =
    let is : file_in c.begins.new.self.files c.args.name.now ≡ None = ap (λ (fs : List Named). file_in fs c.args.name.now) (sym c.as_slice.ensures) ∙ sym c.in-None.ensures in
    let before : file_in c.args.self.now.files c.args.name.now ≡ None = ap (λ (h : Contents). h.files c.args.name.now) (sym c.begins.ensures.contents) ∙ is in
    answer_none (works c.args.self.now) (file_in c.args.self.now.files c.args.name.now) _ (sym c.begins.ensures.works ∙ c.if-not-begins.false) before (ap Err c.read_failed-in-None.ensures.fault)
