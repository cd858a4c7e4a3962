-- One more answer of a link that serves.
use Rattle.std.proofs.Common.{◌≡◌, ℕ, Bool, true, false, List, [], ◌∷◌, ◌++◌, refl, sym, ◌∙◌, ap, subst, Option, Some}
use Rattle.mx_types.specs.Method.{is_repeatable}
use Rattle.mx_types.specs.declared.code.Code.{Code}
use Rattle.mx_types.specs.declared.code.Code.TheVariants as code
use Rattle.mx_types.specs.declared.method.Method.{Method}
use Rattle.mx_body.specs.declared.decoder.Stand.{Stand}
use Rattle.mx_body.specs.declared.decoder.Stand.TheVariants as stand
use Rattle.mx_reader.specs.Judgements.{IsUndecidedBy}
use Rattle.mx_reader.specs.Readers.{ReaderValue, IsReader}
use Rattle.mx_link.specs.Answers.{is_connect, given, given_by}
use Rattle.mx_link.specs.Calls.{read_answer}
use Rattle.mx_link.specs.declared.answers.Answer.{Answer}
use Rattle.mx_link.specs.declared.answers.Answer.TheVariants as said
use Rattle.mx_link.specs.declared.answers.Read.{Read}
use Rattle.mx_line.specs.Order.{is_last}
use Rattle.mx_line.specs.Endings.{by_bytes, by_end, by_fault, by_memory, HasMore, IsUndecided, MustRetry, code_of, fault_code, is_loss, is_heard}
use Rattle.mx_line.specs.Calls.{StepsAt, StepsTo, StepSo}
use Rattle.mx_line.specs.Lines.{LineState, IsGoing, IsOver, Grows}
use Rattle.mx_line.specs.declared.calls.Step.{Step}
use Rattle.mx_line.specs.declared.calls.Step.TheVariants as step
use Rattle.mx_line.proofs.Judged.{none_of_none, undecided_by, judged_past}
use Rattle.mx_line.proofs.Ordered.{given-push, given-same, any-same, same-last}

-- a reader that wasn't fed goes on as it did
pub going_same : (kind : Method) (answers : List Answer) (was is : ReaderValue) → is ≡ was → IsGoing kind answers was → IsGoing kind answers is
going_same kind answers was is same g = subst (λ (r : ReaderValue). IsGoing kind answers r) (sym same) g

-- the answer of a read that is known
pub grows_by : {L : Type 0} (old new : LineState L) (buffer : List ℕ) (read is : Read) → read ≡ is → Grows old new (read_answer read buffer ∷ []) → Grows old new (read_answer is buffer ∷ [])
grows_by old new buffer read is same grows = subst (λ (r : Read). Grows old new (read_answer r buffer ∷ [])) same grows

-- the result of one answer of a link that is asked on
module _ (kind : Method) (past : List Answer) (d : ReaderValue) (g : IsGoing kind past d) where
  -- an answer that gave nothing, and isn't the last
  silent : (a : Answer) → given_by a ≡ [] → is_last a ≡ false → IsGoing kind (past ++ a ∷ []) d
  silent a gives unlast = record {
    exact = g.exact;
    method = g.method;
    wire = g.wire ∙ sym (given-same past a gives);
    unended = g.unended;
    more = g.more;
    undecided = (any-same is_last past a unlast ∙ g.undecided.0, subst (λ (l : List ℕ). IsUndecidedBy d.limit kind l) (sym (given-same past a gives)) g.undecided.1);
  }

  -- more is to come of what it has
  more : HasMore d.limit kind d.wire d.judgement
  more = (judged_past d kind d.wire false g.exact g.method refl g.unended, g.more)

  -- one of the same limit was undecided, too
  same_undecided : (to : ReaderValue) → to.limit ≡ d.limit → IsUndecided to.limit kind past
  same_undecided to same = subst (λ (l : Option ℕ). IsUndecided l kind past) (sym same) g.undecided

  -- and where that is nothing, nothing was handed on
  pub unhanded : d.wire ≡ [] → d.judgement.content ≡ []
  unhanded none = none_of_none d.limit d.method d.wire d.ended d.judgement g.exact.judged g.more none

  module _ (reused : Bool) where
    -- a link that isn't lost is not retried
    unlost : (a : Answer) → is_loss a ≡ false → ¬ (MustRetry kind reused (past ++ a ∷ []))
    unlost a fine m =
        let same : a ≡ m.last = same-last past m.earlier a m.last m.ends in
        let both : true ≡ false = sym m.lost ∙ ap is_loss (sym same) ∙ fine in cc

    -- nor is one where that isn't due
    unrepeated : (a : Answer) → given_by a ≡ [] → ¬ ((reused ≡ true) × (is_repeatable kind ≡ true) × (d.wire ≡ [])) → ¬ (MustRetry kind reused (past ++ a ∷ []))
    unrepeated a gives never m = never (m.reused_is, m.repeated, g.wire ∙ sym (given-same past a gives) ∙ m.silent)

    retry : (a : Answer) → given_by a ≡ [] → is_loss a ≡ true → (reused ≡ true) × (is_repeatable kind ≡ true) × (d.wire ≡ []) → MustRetry kind reused (past ++ a ∷ [])
    retry a gives lost h = record { reused_is = h.0; repeated = h.1; silent = given-same past a gives ∙ sym g.wire ∙ h.2; earlier = past; last = a; ends = refl; lost = lost }

    failed : (a : Answer) (c : Code) → given_by a ≡ [] → fault_code a ≡ Some c → ¬ (MustRetry kind reused (past ++ a ∷ [])) → IsOver kind reused (past ++ a ∷ []) d c
    failed a c gives is never = record {
      exact = g.exact;
      cause = by_fault past a (refl, g.undecided) (g.wire ∙ sym (given-same past a gives)) more is;
      final = never;
    }

    -- memory was refused for bytes that came, or for their end
    unheld : (a : Answer) (to : ReaderValue) → is_heard a ≡ true → to ≡ d → ¬ (MustRetry kind reused (past ++ a ∷ [])) → IsOver kind reused (past ++ a ∷ []) to code.OutOfMemory
    unheld a to hears same never =
        subst (λ (x : ReaderValue). IsOver kind reused (past ++ a ∷ []) x code.OutOfMemory) (sym same)
        (record { exact = g.exact; cause = by_memory past a (refl, g.undecided) hears g.wire more; final = never })

module _ {L : Type 0} (old new : LineState L) (d : ReaderValue) (g : IsGoing old.request.method old.answers d) where
  turn : (how : Step) (a : Answer) (to : ReaderValue) → Grows old new (a ∷ []) → (is_connect a ≡ true → old.stands ≡ false) → (old.stands ≡ true → new.stands ≡ true)
      → StepSo how old.request.method old.is_reused new.stands (old.answers ++ a ∷ []) to a → StepsTo old new how to
  turn how a to grows unmade kept so = record {
    answer = a;
    grows = grows;
    unmade = unmade;
    kept = kept;
    so = subst (λ (l : List Answer). StepSo how old.request.method old.is_reused new.stands l to a) (sym (ap (λ (x : LineState L). x.answers) grows)) so;
  }

  quiet : (a : Answer) → given_by a ≡ [] → is_last a ≡ false → IsGoing old.request.method (old.answers ++ a ∷ []) d
  quiet = silent old.request.method old.answers d g

  module _ (unmade : old.stands ≡ false) where
    still : old.stands ≡ true → new.stands ≡ true
    still e = let x : true ≡ false = sym e ∙ unmade in cc

    pub Turn-connected : Grows old new (said.Connected ∷ []) → new.stands ≡ true → StepsTo old new step.Connected d
    Turn-connected grows made = turn step.Connected said.Connected d grows (λ e. unmade) (λ e. made) (quiet said.Connected refl refl, refl, made)

    pub Turn-connecting : Grows old new (said.ConnectBlocked ∷ []) → StepsTo old new step.Blocked d
    Turn-connecting grows = turn step.Blocked said.ConnectBlocked d grows (λ e. unmade) still (quiet said.ConnectBlocked refl refl, refl)

    pub Turn-unconnected : Grows old new (said.ConnectFailed ∷ []) → StepsTo old new (step.Over code.CouldntConnect) d
    Turn-unconnected grows = turn (step.Over code.CouldntConnect) said.ConnectFailed d grows (λ e. unmade) still
        (failed old.request.method old.answers d g old.is_reused said.ConnectFailed code.CouldntConnect refl refl (unlost old.request.method old.answers d g old.is_reused said.ConnectFailed refl))

  module _ (stays : new.stands ≡ old.stands) where
    kept : old.stands ≡ true → new.stands ≡ true
    kept e = stays ∙ e

    pub Turn-wrote : (piece : List ℕ) → Grows old new (said.Took piece ∷ []) → StepsTo old new step.Wrote d
    Turn-wrote piece grows = turn step.Wrote (said.Took piece) d grows (λ e. cc) kept (quiet (said.Took piece) refl refl, refl)

    pub Turn-unwritten : Grows old new (said.WriteBlocked ∷ []) → StepsTo old new step.Blocked d
    Turn-unwritten grows = turn step.Blocked said.WriteBlocked d grows (λ e. cc) kept (quiet said.WriteBlocked refl refl, refl)

    pub Turn-unheard : Grows old new (said.ReadBlocked ∷ []) → StepsTo old new step.Blocked d
    Turn-unheard grows = turn step.Blocked said.ReadBlocked d grows (λ e. cc) kept (quiet said.ReadBlocked refl refl, refl)

    module _ (due : (old.is_reused ≡ true) × (is_repeatable old.request.method ≡ true) × (d.wire ≡ [])) where
      again : (a : Answer) → given_by a ≡ [] → is_loss a ≡ true → is_connect a ≡ false → Grows old new (a ∷ []) → StepsTo old new step.Lost d
      again a gives lost other grows = turn step.Lost a d grows (λ e. let x : true ≡ false = sym e ∙ other in cc) kept
          (retry old.request.method old.answers d g old.is_reused a gives lost due, unhanded old.request.method old.answers d g due.2)

      pub Turn-unsent_retry : Grows old new (said.WriteFailed ∷ []) → StepsTo old new step.Lost d
      Turn-unsent_retry grows = again said.WriteFailed refl refl refl grows

      pub Turn-failed_retry : Grows old new (said.ReadFailed ∷ []) → StepsTo old new step.Lost d
      Turn-failed_retry grows = again said.ReadFailed refl refl refl grows

      pub Turn-ended_retry : Grows old new (said.ReadEnded ∷ []) → StepsTo old new step.Lost d
      Turn-ended_retry grows = again said.ReadEnded refl refl refl grows

    module _ (never : ¬ ((old.is_reused ≡ true) × (is_repeatable old.request.method ≡ true) × (d.wire ≡ []))) where
      unrepeats : (a : Answer) → given_by a ≡ [] → ¬ (MustRetry old.request.method old.is_reused (old.answers ++ a ∷ []))
      unrepeats a gives = unrepeated old.request.method old.answers d g old.is_reused a gives never

      fails : (a : Answer) (c : Code) → given_by a ≡ [] → fault_code a ≡ Some c → is_connect a ≡ false → Grows old new (a ∷ []) → StepsTo old new (step.Over c) d
      fails a c gives is other grows = turn (step.Over c) a d grows (λ e. let x : true ≡ false = sym e ∙ other in cc) kept
          (failed old.request.method old.answers d g old.is_reused a c gives is (unrepeats a gives))

      pub Turn-unsent : Grows old new (said.WriteFailed ∷ []) → StepsTo old new (step.Over code.SendError) d
      Turn-unsent grows = fails said.WriteFailed code.SendError refl refl refl grows

      pub Turn-failed : Grows old new (said.ReadFailed ∷ []) → StepsTo old new (step.Over code.RecvError) d
      Turn-failed grows = fails said.ReadFailed code.RecvError refl refl refl grows

      pub Turn-lost_end : (to : ReaderValue) → to ≡ d → Grows old new (said.ReadEnded ∷ []) → StepsTo old new (step.Over code.OutOfMemory) to
      Turn-lost_end to same grows = turn (step.Over code.OutOfMemory) said.ReadEnded to grows (λ e. cc) kept
          (unheld old.request.method old.answers d g old.is_reused said.ReadEnded to refl same (unrepeats said.ReadEnded refl))

      -- the bytes have ended
      module _ (to : ReaderValue) (fed : to ≡ record d { ended = true; judgement = to.judgement }) (exact : IsReader to) (grows : Grows old new (said.ReadEnded ∷ [])) where
        ended_over : (c : Code) → code_of to.judgement.stand ≡ Some c → StepsTo old new (step.Over c) to
        ended_over c is_c =
            let wire : to.wire ≡ given (old.answers ++ said.ReadEnded ∷ []) = ap (λ (x : ReaderValue). x.wire) fed ∙ g.wire ∙ sym (given-same old.answers said.ReadEnded refl) in
            turn (step.Over c) said.ReadEnded to grows (λ e. cc) kept
            (record {
              exact = exact;
              cause = by_end old.answers (refl, same_undecided old.request.method old.answers d g to (ap (λ (x : ReaderValue). x.limit) fed)) wire
                  (judged_past to old.request.method to.wire true exact (ap (λ (x : ReaderValue). x.method) fed ∙ g.method) refl (ap (λ (x : ReaderValue). x.ended) fed)) is_c;
              final = unrepeats said.ReadEnded refl;
            })

        pub Turn-ended_whole : stand.Complete ≡ to.judgement.stand → StepsTo old new (step.Over code.Ok) to
        Turn-ended_whole s = ended_over code.Ok (ap code_of (sym s))

        pub Turn-ended_bad : (c : Code) → stand.Fault c ≡ to.judgement.stand → StepsTo old new (step.Over c) to
        Turn-ended_bad c s = ended_over c (ap code_of (sym s))

    pub Turn-lost_bytes : (piece : List ℕ) (to : ReaderValue) → to ≡ d → Grows old new (said.Gave piece ∷ []) → StepsTo old new (step.Over code.OutOfMemory) to
    Turn-lost_bytes piece to same grows = turn (step.Over code.OutOfMemory) (said.Gave piece) to grows (λ e. cc) kept
        (unheld old.request.method old.answers d g old.is_reused (said.Gave piece) to refl same (unlost old.request.method old.answers d g old.is_reused (said.Gave piece) refl))

    -- bytes came
    module _ (piece : List ℕ) (to : ReaderValue) (fed : to ≡ record d { wire = d.wire ++ piece; kept = to.kept; judgement = to.judgement }) (exact : IsReader to) (grows : Grows old new (said.Gave piece ∷ [])) where
      wire : to.wire ≡ given (old.answers ++ said.Gave piece ∷ [])
      wire = ap (λ (x : ReaderValue). x.wire) fed ∙ ap (λ (l : List ℕ). l ++ piece) g.wire ∙ sym (given-push old.answers (said.Gave piece))

      method : to.method ≡ old.request.method
      method = ap (λ (x : ReaderValue). x.method) fed ∙ g.method

      unended : to.ended ≡ false
      unended = ap (λ (x : ReaderValue). x.ended) fed ∙ g.unended

      over : (c : Code) → code_of to.judgement.stand ≡ Some c → StepsTo old new (step.Over c) to
      over c is_c = turn (step.Over c) (said.Gave piece) to grows (λ e. cc) kept
          (record {
            exact = exact;
            cause = by_bytes old.answers piece (refl, same_undecided old.request.method old.answers d g to (ap (λ (x : ReaderValue). x.limit) fed)) wire
                (judged_past to old.request.method to.wire false exact method refl unended) is_c;
            final = unlost old.request.method old.answers d g old.is_reused (said.Gave piece) refl;
          })

      pub Turn-whole : stand.Complete ≡ to.judgement.stand → StepsTo old new (step.Over code.Ok) to
      Turn-whole s = over code.Ok (ap code_of (sym s))

      pub Turn-bad : (c : Code) → stand.Fault c ≡ to.judgement.stand → StepsTo old new (step.Over c) to
      Turn-bad c s = over c (ap code_of (sym s))

      pub Turn-heard : stand.More ≡ to.judgement.stand → StepsTo old new step.Heard to
      Turn-heard s =
          let gone : IsGoing old.request.method (old.answers ++ said.Gave piece ∷ []) to = record {
            exact = exact;
            method = method;
            wire = wire;
            unended = unended;
            more = sym s;
            undecided = (
              any-same is_last old.answers (said.Gave piece) refl ∙ g.undecided.0,
              undecided_by to.limit old.request.method (given (old.answers ++ said.Gave piece ∷ [])) to.judgement (judged_past to old.request.method _ false exact method wire unended) (sym s),
            );
          } in
          turn step.Heard (said.Gave piece) to grows (λ e. cc) kept (gone, refl)

      -- as the state of the bytes says that the reader took
      pub Turn-passed : (s : Stand) (how : Step) → s ≡ to.judgement.stand → StepsAt s how → StepsTo old new how to
      Turn-passed stand.More how e x = subst (λ (h : Step). StepsTo old new h to) (sym x) (Turn-heard e)
      Turn-passed stand.Complete how e x = subst (λ (h : Step). StepsTo old new h to) (sym x) (Turn-whole e)
      Turn-passed (stand.Fault c) how e x = subst (λ (h : Step). StepsTo old new h to) (sym x) (Turn-bad c e)
