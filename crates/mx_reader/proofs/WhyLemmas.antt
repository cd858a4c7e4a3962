-- Why the bytes that a reader hands on are no whole response.
use Rattle.std.proofs.Common.{◌≡◌, ℕ, Bool, inl, inr, List, [], refl, sym, ap, subst}
use Rattle.std.specs.Prelude.{Option, Some, None, IfSome}
use Rattle.mx_body.specs.declared.decoder.Stand.{Stand}
use Rattle.mx_flow.specs.Streams.{StreamValue, HasStand, IsStream}
use Rattle.mx_flow.specs.Whys.{HasNoWhy, IsCutWhereOpen, TellsWhy}
use Rattle.mx_flow.specs.declared.stream_state.StreamState.TheVariants as state
use Rattle.mx_reason.specs.declared.reason.Reason.{Reason}
use Rattle.mx_reader.specs.Flowing.{flowing}
use Rattle.mx_reader.specs.Whys.{HasNoReason, IsReasonOf, TellsNone}

tells_none : (s : StreamValue) → IsStream s → HasNoWhy s → TellsNone s.limit s.method s.wire
tells_none s is (inl begins) = inl begins
tells_none s is (inr (inl whole)) = inr (inl (s.content, subst (HasStand s) whole is.stand))
tells_none s is (inr (inr (inl large))) = inr (inr (inl (subst (HasStand s) large is.stand).1))
tells_none s is (inr (inr (inr many))) = inr (inr (inr many))

-- the reason of a stream is that of its reader
reason_by : (s : StreamValue) (behind : List ℕ) (at : Stand) (ended keep : Bool) (r : Reason) → (s.stand ≡ state.More → behind ≡ []) → TellsWhy s.limit s.method s.wire r
    → IsCutWhereOpen s.stand r → IsReasonOf (flowing s behind at ended keep) r
reason_by s behind at ended keep r alone tells cut =
    (s.limit, refl, record { front = s.wire; behind = behind; is_prefix = refl; tells = tells; all = λ told is. alone (cut told is) })

pub reason_told : (s : StreamValue) (behind : List ℕ) (at : Stand) (ended keep : Bool) (o : Option Reason) → (s.stand ≡ state.More → behind ≡ []) → IfSome o (TellsWhy s.limit s.method s.wire)
    → IfSome o (IsCutWhereOpen s.stand) → IfSome o (IsReasonOf (flowing s behind at ended keep))
reason_told s behind at ended keep None alone tells cut = tells
reason_told s behind at ended keep (Some r) alone tells cut = reason_by s behind at ended keep r alone tells cut

-- where a stream tells no reason its reader has none
pub none_told : (s : StreamValue) (behind : List ℕ) (at : Stand) (ended keep : Bool) → IsStream s → HasNoWhy s → HasNoReason (flowing s behind at ended keep)
none_told s behind at ended keep is none = inr (λ limit same.
    let own : s.limit ≡ limit = cc in
    record {
      front = s.wire;
      behind = behind;
      is_prefix = refl;
      none = subst (λ (n : ℕ). TellsNone n s.method s.wire) own (tells_none s is none);
    })
