-- What is known of a reader that hands the content on: at first, after a piece, and at the end.
use Rattle.std.proofs.Common.{◌≡◌, ◌≢◌, ℕ, ◌+◌, ◌-◌, Bool, true, false, nat_eq, List, [], ◌++◌, length, take, drop, refl, sym, ap, subst, ◌∙◌, arith, append_assoc, length-append}
use Rattle.std.proofs.lemmas.Bool.{eq-eqb, eqb-true}
use Rattle.std.proofs.lemmas.List.{append-nil, take-append-drop, length-take, length-drop, drop_all, nil_from_length}
use Rattle.std.specs.Prelude.{Some, min}
use Rattle.mx_types.specs.declared.method.Method.{Method}
use Rattle.mx_body.specs.declared.decoder.Stand.{Stand}
use Rattle.mx_body.specs.declared.decoder.Stand.TheVariants as stand
use Rattle.mx_flow.specs.Streams.{StreamValue, IsStream, IsTaken, HasEnd, first_stream}
use Rattle.mx_flow.specs.declared.stream_state.StreamState as flow_stand
use Rattle.mx_flow.specs.declared.stream_state.StreamState.TheVariants as state
use Rattle.mx_reader.specs.Readers.{IsReader, most_counted, HandsOn, IsFedBy}
use Rattle.mx_reader.specs.Flowing.{stand_by, KeepsBy, flowing, IsFlowing}
use Rattle.mx_reader.proofs.FlowingLemmas.{before_end, with_end}

-- the states agree on whether more is to come
more_by : (at : flow_stand.StreamState) → stand_by at ≡ stand.More → at ≡ state.More
more_by state.More e = refl
more_by state.Whole e = let both : stand.Complete ≡ stand.More = e in absurd (cc)
more_by (state.Fault c) e = let both : stand.Fault c ≡ stand.More = e in absurd (cc)

unkept_by : (s : StreamValue) (at : flow_stand.StreamState) (keep : Bool) → at ≡ state.More → KeepsBy s at keep → keep ≡ false
unkept_by s at keep e k = subst (λ (a : flow_stand.StreamState). KeepsBy s a keep) e k

pub first_is : (s : StreamValue) (m : Method) (limit : ℕ) (behind : List ℕ) → IsStream s → s ≡ first_stream m limit → behind ≡ []
    → IsFlowing s behind stand.More false false true 0
first_is s m limit behind is first none =
    let more : s.stand ≡ state.More = ap (λ (v : StreamValue). v.stand) first in
    let empty : s.wire ≡ [] = ap (λ (v : StreamValue). v.wire) first in
    record {
      reader = before_end s is behind (λ e. none) state.More false more refl;
      none_behind = λ e. none;
      goes_on = λ e. record { more = more; unended = refl; unkept = refl };
      all = (λ e. none, λ e. refl);
      fed_is = omega (arith, ap length empty, ap length none);
    }

module _ (old new : StreamValue) (behind now piece before after : List ℕ) (n : ℕ) (ended keep is_all : Bool) (fed next : ℕ) where
  pub fed_so : (was at : Stand) (kept : Bool) (by : flow_stand.StreamState) → IsFlowing old behind was ended keep is_all fed → was ≡ stand.More → IsStream new
      → IsTaken old new n piece before after → now ≡ behind ++ drop n piece → by ≡ new.stand → KeepsBy new by kept → at ≡ stand_by by
      → next ≡ min (fed + length piece) most_counted → IsFlowing new now at ended kept (nat_eq n (length piece)) next
  fed_so was at kept by flow more is taken now_is by_is keeps at_is next_is =
      let going = flow.goes_on more in
      let none = flow.none_behind going.more in
      let rest : now ≡ drop n piece = now_is ∙ ap (λ (t : List ℕ). t ++ drop n piece) none in
      let len : length now ≡ length piece - n = ap length rest ∙ length-drop n piece in
      let wire : length new.wire ≡ length old.wire + n = omega (arith, ap length taken.wire, length-append old.wire (take n piece), length-take n piece, taken.within) in
      let none_behind : new.stand ≡ state.More → now ≡ [] = λ e. nil_from_length now (omega (arith, len, taken.all e)) in
      let reader = before_end new is now none_behind by kept (sym by_is) keeps in
      record {
        reader = subst (λ (e : Bool). IsReader (flowing new now at e kept)) (sym going.unended) (subst (λ (a : Stand). IsReader (flowing new now a false kept)) (sym at_is) reader);
        none_behind = none_behind;
        goes_on = λ e.
            let open_still = more_by by (sym at_is ∙ e) in
            record { more = sym by_is ∙ open_still; unended = going.unended; unkept = unkept_by new by kept open_still keeps };
        all = (
          λ e. nil_from_length now (omega (arith, len, eqb-true n (length piece) e)),
          λ e. eq-eqb n (length piece) (omega (arith, len, ap length e, taken.within)),
        );
        fed_is = omega (arith, flow.fed_is, next_is, wire, len, ap length none, taken.within);
      }

  -- the piece was fed, and what the content has grown by was handed on
  pub fed_piece : (was at : Stand) (kept : Bool) → IsTaken old new n piece before after → behind ≡ [] → now ≡ behind ++ drop n piece
      → IsFedBy (flowing old behind was ended keep) (flowing new now at ended kept) piece
  fed_piece was at kept taken none now_is = λ i. record {
    method = taken.method i;
    limit = Some (taken.limit i);
    wire = wire i;
    ended = ended;
    kept = new.heads;
    judgement = (flowing new now at ended kept).judgement;
  }
    where
      wire : new.wire ++ now ≡ (old.wire ++ behind) ++ piece
      wire =
          ap (λ (t : List ℕ). t ++ now) taken.wire ∙ ap (λ (t : List ℕ). (old.wire ++ take n piece) ++ t) (now_is ∙ ap (λ (t : List ℕ). t ++ drop n piece) none)
          ∙ append_assoc old.wire (take n piece) (drop n piece) ∙ ap (λ (t : List ℕ). old.wire ++ t) (take-append-drop n piece)
          ∙ ap (λ (t : List ℕ). t ++ piece) (sym (ap (λ (t : List ℕ). old.wire ++ t) none ∙ append-nil old.wire))

  pub handed_piece : (was at : Stand) (kept : Bool) → IsTaken old new n piece before after → HandsOn (flowing old behind was ended keep) (flowing new now at ended kept) before after
  handed_piece was at kept taken = record { added = taken.added; handed = taken.handed; grown = taken.grown }

-- a piece that is content as it is
module _ (old new : StreamValue) (behind piece : List ℕ) (ended keep is_all : Bool) (fed next : ℕ) (was at : Stand) (kept : Bool) where
  none_dropped : behind ≡ behind ++ drop (length piece) piece
  none_dropped = sym (ap (λ (t : List ℕ). behind ++ t) (drop_all (length piece) piece (omega arith)) ∙ append-nil behind)

  pub passed_so : (by : flow_stand.StreamState) → IsFlowing old behind was ended keep is_all fed → was ≡ stand.More → IsStream new
      → IsTaken old new (length piece) piece [] piece → by ≡ new.stand → KeepsBy new by kept → at ≡ stand_by by
      → next ≡ min (fed + length piece) most_counted → IsFlowing new behind at ended kept true next
  passed_so by flow more is taken by_is keeps at_is next_is =
      subst (λ (all : Bool). IsFlowing new behind at ended kept all next) (eq-eqb (length piece) (length piece) refl)
      (fed_so old new behind behind piece [] piece (length piece) ended keep is_all fed next was at kept by flow more is taken none_dropped by_is keeps at_is next_is)

  pub passed_piece : IsTaken old new (length piece) piece [] piece → behind ≡ [] → IsFedBy (flowing old behind was ended keep) (flowing new behind at ended kept) piece
  passed_piece taken none = fed_piece old new behind behind piece [] piece (length piece) ended keep is_all fed next was at kept taken none none_dropped

  pub passed_content : IsTaken old new (length piece) piece [] piece → new.content ≡ old.content ++ piece
  passed_content taken = taken.grown ∙ ap (λ (t : List ℕ). old.content ++ t) (sym taken.handed)

module _ (s : StreamValue) (behind : List ℕ) (ended keep is_all : Bool) (fed : ℕ) where
  pub ended_so : (was at : Stand) (by : flow_stand.StreamState) → IsFlowing s behind was ended keep is_all fed → was ≡ stand.More → IsStream s → HasEnd s by → by ≢ state.More
      → at ≡ stand_by by → IsFlowing s behind at true keep is_all fed
  ended_so was at by flow more is end decides at_is =
      let going = flow.goes_on more in
      let reader = with_end s is behind flow.none_behind by going.more end in
      record {
        reader = subst (λ (k : Bool). IsReader (flowing s behind at true k)) (sym going.unkept) (subst (λ (a : Stand). IsReader (flowing s behind a true false)) (sym at_is) reader);
        none_behind = flow.none_behind;
        goes_on = λ e. absurd (decides (more_by by (sym at_is ∙ e)));
        all = flow.all;
        fed_is = flow.fed_is;
      }
