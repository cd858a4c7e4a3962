-- How a call leaves the engine.
use Rattle.std.proofs.Common.{◌≡◌, inl, inr, ℕ, ◌∙◌, sym, refl, ap, subst, List, [], ◌∷◌, ◌++◌, append-nil, length, true, false}
use Rattle.std.specs.Prelude.{drop, slice_index}
use Rattle.logbook.specs.Pages.{Book}
use Rattle.mx_types.specs.declared.event.Who.{Who}
use Rattle.mx_types.specs.declared.event.Event.{Event}
use Rattle.mx_types.specs.declared.call.Call.{Call}
use Rattle.mx_types.specs.declared.reply.Reply.{Reply}
use Rattle.mx_types.specs.declared.origin.Origin.{Origin}
use Rattle.mx_journal.specs.History.{Opening, is_legal}
use Rattle.mx_journal.specs.Core.{Core, claimed, still_running}
use Rattle.mx_journal.specs.Answers.{Answers}
use Rattle.mx_journal.specs.Laws.{HasAtMostOneMore}
use Rattle.mx_history.proofs.Placing.{call_adds_at_most_one}
use Rattle.mx_board.specs.Board.{BoardState, name_of}
use Rattle.mx_lock.specs.Engine.{CalledOn, EngineState, content, HasNoOther, Leaves, Makes}
use Rattle.mx_lock.specs.Ties.{IsTied, TieState}
use Rattle.mx_lock.proofs.Claims.{adds, claims_running, claims_same}

drop_all : (j rest : List Event) → drop (length j) (j ++ rest) ≡ rest
drop_all [] rest = refl
drop_all (x ∷ j) rest = drop_all j rest

grown : (w : Who) (j k : List Event) → HasAtMostOneMore w j k → (rest : List Event) × (k ≡ j ++ rest)
grown w j k (inl e) = ([], e ∙ sym (append-nil j))
grown w j k (inr t) = (record { who = w; what = t.0 } ∷ [], t.1)

-- the log has the events of the journal
pub log_is : (opening : Opening) (w : Who) (call : Call) (reply : Reply) (j k old new : List Event) → Answers opening w call j reply k → old ≡ j → new ≡ old ++ drop (length j) k → new ≡ k
log_is opening w call reply j k old new a e l =
    let g = grown w j k (call_adds_at_most_one opening w call reply j k a) in
    l ∙ ap (λ o. o ++ drop (length j) k) e ∙ ap (λ x. j ++ drop (length j) x) g.1 ∙ ap (λ x. j ++ x) (drop_all j g.0) ∙ sym g.1

book_is : (a b : Book) → name_of a ≡ name_of b → a ≡ b
book_is a b e = ap (λ (l : List ℕ). record { number = slice_index l 0; log_name = slice_index l 1; cells_name = slice_index l 2 }) e

module _ {Q O : Type 0} (ending : O → Origin) where
  -- a call that adds nothing and leaves the queue
  pub makes_same : (who : Who) (call : Call) (x y : Core Q O) (before after : BoardState) (ties : TieState) (reply : Reply) → CalledOn who call x y before after reply → adds call ≡ false → y.queue ≡ x.queue → IsTied ending y ties.entries → Makes ending who call x y before after ties ties reply
  makes_same who call x y before after ties reply called other queue tied =
      record { called = called; claims = claims_same x.opening who call x.journal reply y.journal x.queue y.queue called.answers other queue; list = refl; tied = tied }

  -- a call that adds nothing and leaves in the queue what still runs
  pub makes_running : (who : Who) (call : Call) (x y : Core Q O) (before after : BoardState) (ties : TieState) (reply : Reply) → CalledOn who call x y before after reply → adds call ≡ false → y.queue ≡ still_running y.journal x.queue → IsTied ending y ties.entries → Makes ending who call x y before after ties ties reply
  makes_running who call x y before after ties reply called other queue tied =
      record { called = called; claims = claims_running x.opening who call x.journal reply y.journal x.queue y.queue called.answers other queue; list = refl; tied = tied }

  -- what a call made of an engine's parts, once it is published
  pub leaves_by : (who : Who) (call : Call) (reply : Reply) (x y : EngineState Q O) (a b : Core Q O) (before after : BoardState) (s t : TieState) → record { core = a; published = before.published; book = before.book; ties = s } ≡ x → y ≡ record { core = b; published = b.journal; book = after.book; ties = t }
      → Makes ending who call a b before after s t reply → is_legal y.core.journal ≡ true → Leaves who call x reply y
  leaves_by who call reply x y a b before after s t was is m legal =
      subst (λ (z : EngineState Q O). Leaves who call z reply y) was
      (record {
        answers = subst (λ (z : EngineState Q O). Answers a.opening who call a.journal reply z.core.journal) (sym is) m.called.answers;
        opening = ap (λ (z : EngineState Q O). z.core.opening) is ∙ m.called.opening;
        book = ap (λ (z : EngineState Q O). z.book) is ∙ book_is after.book before.book m.called.same_log;
        ties = ap (λ (z : EngineState Q O). z.ties.book) is ∙ m.list;
        legal = legal;
        claims = subst (λ (z : EngineState Q O). HasNoOther (claimed a.journal a.queue) (content z).claimed) (sym is) m.claims;
        out = ap (λ (z : EngineState Q O). z.core.out) is ∙ m.called.out;
        unchanged = λ none. ap (λ (z : EngineState Q O). z.core) is ∙ m.called.unchanged none;
      })
