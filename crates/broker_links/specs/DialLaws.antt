-- Calls of a dialer in memory, one behind the other, leave what each of them leaves.
use Rattle.std.specs.Prelude.{ℕ, Bool, true, false, IsTrue, Option, Some, None, ◌≡◌}
use Rattle.std.proofs.Common.{refl, ◌∙◌, inl, inr, arith}
use Rattle.broker_links.specs.Marks.{Marks}
use Rattle.broker_links.specs.Dials.{Dialed, OnOpen, ReadOf, WrittenTo}
use Rattle.broker_links.specs.Dialing.{KeepsSetting, KeepsRead, KeepsWritten, faults_of, dials_of}
use Rattle.broker_links.specs.declared.memory_dialer.MemoryDialer.{MemoryDialer}

marks_none : (n : ℕ) (b : Bool) → Marks n n b b
marks_none n b = record { later = omega arith; stays = λ t. t; only = λ t. inl t; steady = λ e. refl }

unset : (old new : Bool) → (IsTrue old → IsTrue new) → new ≡ false → old ≡ false
unset false new stays is = refl
unset true new stays is = grind (arith, stays, is)

marks_both : {before mid now : ℕ} {old between new : Bool} → Marks before mid old between → Marks mid now between new → Marks before now old new
marks_both {before} {mid} {now} {old} {between} {new} first second = record {
  later = omega (arith, first.later, second.later);
  stays = λ t. second.stays (first.stays t);
  only = λ t. elim (second.only t) [
    | inl was ↦ elim (first.only was) [
      | inl set ↦ inl set
      | inr rose ↦ inr (omega (arith, rose, second.later))
    ]
    | inr rose ↦ inr (omega (arith, rose, first.later))
  ];
  steady = λ is. second.steady is ∙ first.steady (unset between new second.stays is);
}

read_none : (n : ℕ) (c : Option Dialed) → OnOpen (ReadOf n n) c c
read_none n None = refl
read_none n (Some c) = record { host = refl; port = refl; input = refl; sent = refl; write_failed = refl; marks = marks_none n c.read_failed }

written_none : (n : ℕ) (c : Option Dialed) → OnOpen (WrittenTo n n) c c
written_none n None = refl
written_none n (Some c) = record { host = refl; port = refl; input = refl; taken = refl; read_failed = refl; marks = marks_none n c.write_failed }

reads_both : {n m k : ℕ} {c d e : Dialed} → ReadOf n m c d → ReadOf m k d e → ReadOf n k c e
reads_both first second = record {
  host = second.host ∙ first.host;
  port = second.port ∙ first.port;
  input = second.input ∙ first.input;
  sent = second.sent ∙ first.sent;
  write_failed = second.write_failed ∙ first.write_failed;
  marks = marks_both first.marks second.marks;
}

writes_both : {n m k : ℕ} {c d e : Dialed} → WrittenTo n m c d → WrittenTo m k d e → WrittenTo n k c e
writes_both first second = record {
  host = second.host ∙ first.host;
  port = second.port ∙ first.port;
  input = second.input ∙ first.input;
  taken = second.taken ∙ first.taken;
  read_failed = second.read_failed ∙ first.read_failed;
  marks = marks_both first.marks second.marks;
}

-- two relations in a row, on what is open
open_both : {P Q R : Dialed → Dialed → Type 0} → ((c d e : Dialed) → P c d → Q d e → R c e) → (a b c : Option Dialed) → OnOpen P a b → OnOpen Q b c → OnOpen R a c
open_both join None None c first second = second
open_both join None (Some b) c first second = grind (arith, first)
open_both join (Some a) None c first second = absurd first
open_both join (Some a) (Some b) None first second = second
open_both join (Some a) (Some b) (Some c) first second = join a b c first second

keeps_setting : {old mid new : MemoryDialer} → KeepsSetting old mid → KeepsSetting mid new → KeepsSetting old new
keeps_setting first second = record {
  inputs = second.inputs ∙ first.inputs;
  piece = second.piece ∙ first.piece;
  failing = second.failing ∙ first.failing;
}

-- no call
setting_same : (m : MemoryDialer) → KeepsSetting m m
setting_same m = record { inputs = refl; piece = refl; failing = refl }

-- no read
pub reads_none : (m : MemoryDialer) → KeepsRead m m
reads_none m = record { setting = setting_same m; alone = record { closed = refl; current = read_none (faults_of m) (dials_of m).current } }

-- a read behind another
pub reads_on : (old mid new : MemoryDialer) → KeepsRead old mid → KeepsRead mid new → KeepsRead old new
reads_on old mid new first second = record {
  setting = keeps_setting first.setting second.setting;
  alone = record {
    closed = second.alone.closed ∙ first.alone.closed;
    current = open_both (λ c d e p q. reads_both p q) (dials_of old).current (dials_of mid).current (dials_of new).current first.alone.current second.alone.current;
  };
}

-- no write
pub writes_none : (m : MemoryDialer) → KeepsWritten m m
writes_none m = record { setting = setting_same m; alone = record { closed = refl; current = written_none (faults_of m) (dials_of m).current } }

-- a write behind another
pub writes_on : (old mid new : MemoryDialer) → KeepsWritten old mid → KeepsWritten mid new → KeepsWritten old new
writes_on old mid new first second = record {
  setting = keeps_setting first.setting second.setting;
  alone = record {
    closed = second.alone.closed ∙ first.alone.closed;
    current = open_both (λ c d e p q. writes_both p q) (dials_of old).current (dials_of mid).current (dials_of new).current first.alone.current second.alone.current;
  };
}
