-- What a host in memory answers to a read.
use Rattle.std.proofs.Common.{◌≡◌, ℕ, Bool, true, List, Option, None, Some, Result, Ok, Err, refl, sym, ap, subst, ◌∙◌}
use Rattle.teep_tool.specs.Contents.{Contents}
use Rattle.teep_tool.specs.Calls.{Gives, ReadsFile}
use Rattle.teep_tool.specs.Memory.{ReadAnswers}
use Rattle.teep_tool.specs.declared.host.HostFault.{HostFault}
use Rattle.teep_tool.specs.declared.host.HostFault.TheVariants.{Failed, Long, NoMemory}

pub read_given : (name : List ℕ) (result : Result (List ℕ) HostFault) (old new : Contents) (bytes : List ℕ) → new ≡ old → new.files name ≡ Some bytes → Gives (Some bytes) result → ReadsFile name result old new
read_given name result old new bytes same is gives =
    let there : Some bytes ≡ old.files name = sym is ∙ ap (λ (c : Contents). c.files name) same in
    record {
      gives = subst (λ (f : Option (List ℕ)). Gives f result) there gives;
      files = ap (λ (c : Contents). c.files) same;
      printed = ap (λ (c : Contents). c.printed) same;
    }

by_answer : (bytes : List ℕ) (result : Result (List ℕ) HostFault) → (result ≡ Err Failed → ⊥) → ReadAnswers true (Some bytes) result
by_answer bytes (Ok got) right = tt
by_answer bytes (Err Long) right = tt
by_answer bytes (Err NoMemory) right = tt
by_answer bytes (Err Failed) right = right refl

pub answer_given : (works : Bool) (file : Option (List ℕ)) (bytes : List ℕ) (result : Result (List ℕ) HostFault) → works ≡ true → file ≡ Some bytes → (result ≡ Err Failed → ⊥) → ReadAnswers works file result
answer_given works file bytes result right_number is right = rw (right_number, is) (by_answer bytes result right)

pub answer_none : (works : Bool) (file : Option (List ℕ)) (result : Result (List ℕ) HostFault) → works ≡ true → file ≡ None → result ≡ Err Failed → ReadAnswers works file result
answer_none works file result right_number is fault = rw (right_number, is) fault
