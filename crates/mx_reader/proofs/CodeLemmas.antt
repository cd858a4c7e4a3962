-- The codes of the bytes of an exchange.
use Rattle.std.proofs.Common.{◌≡◌, inl, inr, ℕ, Bool, true, List, refl, subst, Err}
use Rattle.std.specs.Prelude.{Some, None, Result}
use Rattle.mx_types.specs.declared.code.Code.{Code}
use Rattle.mx_types.specs.declared.method.Method.{Method}
use Rattle.mx_head.specs.declared.types.Framing.{Framing}
use Rattle.mx_head.specs.Framing.{framing_of}
use Rattle.mx_head.specs.Faults.{many_fields, never_head, long_head}
use Rattle.mx_body.specs.Causes.{Cause, at_head, refused_status, at_body, bad_framing, unknown_coding, too_big, bad_chunk, cause_code}
use Rattle.mx_body.specs.Decision.{EndsTooSoon}
use Rattle.mx_body.specs.Decoder.{is_verdict_code, HasVerdictCode}
use Rattle.mx_body.specs.declared.decoder.Stand.{Stand}
use Rattle.mx_body.specs.declared.decoder.Stand.TheVariants as stand
use Rattle.mx_body.proofs.DecoderLemmas.{code_is}
use Rattle.mx_body.proofs.VerdictLemmas.{FramingKind, framing_kind, is_empty, is_counted, is_chunked, is_open, is_weird, is_coded}
use Rattle.mx_flow.specs.Streams.{IsFaultOf}
use Rattle.mx_reader.specs.Judgements.{Judgement, StandsSo}
use Rattle.mx_reader.specs.Readers.{ReaderValue, IsReader}
use Rattle.mx_reader.specs.Laws.{CodesAreListed}

cause_listed : (k : Cause) → is_verdict_code (cause_code k) ≡ true
cause_listed (at_head many_fields) = refl
cause_listed (at_head never_head) = refl
cause_listed (at_head long_head) = refl
cause_listed refused_status = refl
cause_listed (at_body bad_framing) = refl
cause_listed (at_body unknown_coding) = refl
cause_listed (at_body too_big) = refl
cause_listed (at_body bad_chunk) = refl

end_listed : (x : List ℕ) (c : Code) → EndsTooSoon x c → is_verdict_code c ≡ true
end_listed x c (inl h) = rw h.1 refl
end_listed x c (inr (inl h)) = rw h.2 refl
end_listed x c (inr (inr h)) = rw h.1 refl

framing_listed : (r : Result Framing Code) (c : Code) → FramingKind r → r ≡ Err c → is_verdict_code c ≡ true
framing_listed r c is_empty e = absurd (cc)
framing_listed r c (is_counted n) e = absurd (cc)
framing_listed r c is_chunked e = absurd (cc)
framing_listed r c is_open e = absurd (cc)
framing_listed r c is_weird e = cc
framing_listed r c is_coded e = cc

fault_listed : (limit : ℕ) (m : Method) (x : List ℕ) (c : Code) → IsFaultOf limit m x c → is_verdict_code c ≡ true
fault_listed limit m x c (inl f) = subst (λ (k : Code). is_verdict_code k ≡ true) f.1.code_is (cause_listed f.1.cause)
fault_listed limit m x c (inr (inl f)) = framing_listed (framing_of m f.1) c (framing_kind m f.1) f.3
fault_listed limit m x c (inr (inr f)) = elim f.3 [
  | inl bad ↦ rw bad.1 refl
  | inr large ↦ rw large.1 refl
]

stand_listed : (limit : ℕ) (m : Method) (x : List ℕ) (ended : Bool) (j : Judgement) (s : Stand) → StandsSo limit m x ended j s → HasVerdictCode s
stand_listed limit m x ended j stand.More h = tt
stand_listed limit m x ended j stand.Complete h = tt
stand_listed limit m x ended j (stand.Fault c) h = elim h.0 [
  | inl b ↦ fault_listed limit m b.front c b.fault
  | inr e ↦ end_listed x c e.soon
]

pub codes_are_listed : CodesAreListed
codes_are_listed None m x ended j h = code_is m x ended h.0 j.stand h.1 (rw h.2 refl)
codes_are_listed (Some limit) m x ended j h = stand_listed limit m x ended j j.stand h.1

pub reader_code : (r : ReaderValue) → IsReader r → HasVerdictCode r.judgement.stand
reader_code r is = codes_are_listed r.limit r.method r.wire r.ended r.judgement is.judged
