-- What a commit needs is there.
use Rattle.std.proofs.Common.{◌≡◌, ◌≤◌, ◌+◌, ℕ, List, length, Option, sym, subst}
use Rattle.std.specs.Prelude.{vec_len, vec_capacity}
use Rattle.device_state.specs.declared.change.Change.{Change}
use Rattle.device_state.specs.declared.heads.RowHead.{RowHead}
use Rattle.device_state.specs.State.{State, changed, put_rows, rows_weight}
use Rattle.device_state.specs.Valid.{IsValid}
use Rattle.device_image.specs.Held.{state_of}
use Rattle.component_store.specs.declared.prepared.Framing.{Framing}
use Rattle.component_store.specs.Keeping.{Log}
use Rattle.component_store.specs.Preparing.{MayFollow, HeadsFor, FramedFor, IsReady}

pub is_ready : (old new : Log) (change other : Change) (row_heads : Option (List RowHead)) (weight : ℕ) (framing : Framing) → state_of new.held ≡ state_of old.held → other ≡ change
    → MayFollow change (state_of old.held) → IsValid (changed change (state_of old.held)) → HeadsFor old.held.rows.items change.rows row_heads → weight ≡ rows_weight (put_rows change.rows old.held.rows.items)
    → vec_len new.held.rows + length change.rows ≤ vec_capacity new.held.rows → FramedFor new.held change framing
    → IsReady new (record { change = other; heads = row_heads; weight = weight; framing = framing })
is_ready old new change other row_heads weight framing state same may valid heads_are weight_is room framed =
    subst (λ (ch : Change). IsReady new (record { change = ch; heads = row_heads; weight = weight; framing = framing })) (sym same) (record {
      valid = subst (λ (s : State). IsValid (changed change s)) (sym state) valid;
      leaf = subst (λ (s : State). s.leaf ≤ change.leaf) (sym state) may.leaf;
      rows_fit = room;
      heads_are = subst (λ (s : State). HeadsFor s.rows change.rows row_heads) (sym state) heads_are;
      weight_is = subst (λ (s : State). weight ≡ rows_weight (put_rows change.rows s.rows)) (sym state) weight_is;
      framed = framed;
    })
