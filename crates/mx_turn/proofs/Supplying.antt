-- How a transfer gets its link, case by case.
use Rattle.std.proofs.Common.{◌≡◌, ◌⊎◌, inl, inr, ℕ, Bool, true, false, List, [], ◌∷◌, ◌++◌, sym, refl, ap, subst, ◌∙◌, append-nil, append_assoc, Some}
use Rattle.std.specs.Prelude.{Result, Ok, Err, IfOk, IfErr, MatchResult}
use Rattle.mx_types.specs.Code.{is_link_code}
use Rattle.mx_types.specs.declared.code.Code.{Code}
use Rattle.mx_request.specs.Endpoint.{HostAndPort}
use Rattle.mx_link.specs.declared.answers.Answer.{Answer}
use Rattle.mx_turn.specs.Idle.{Idle, kept, HasNone, TakesNewest}
use Rattle.mx_exchange.specs.Exchanges.{WantsLink}
use Rattle.mx_chain.specs.Chains.{ChainState, home_of}
use Rattle.mx_gate.specs.Said.{Said, asked, opened, lacked, numbered}
use Rattle.mx_turn.specs.Turn.{unwanted, reuses, delays, opens, fails, reopens, gives_up, puts_off, cleared, served_by, unserved, MustOpen, Keeps, puts}
use Rattle.mx_turn.specs.Supplies.{Supplies, HasNoIdle, IsPutOff, Opens, at_once, refused, once_more, TakesIdle}

module _ {L : Type 0} (history : L → List Answer) (token_of : L → ℕ) (t new : ChainState L) (idle left : Idle L) (was is : List Said) where
  pub by_none : ¬ (WantsLink t.now) → new ≡ t → left ≡ idle → is ≡ was → Supplies history token_of t new idle left was is false
  by_none unwanting same kept silent = record { said = []; supplied = unwanted unwanting same kept; meanwhile = silent ∙ sym (append-nil was); delays = refl }

  pub by_idle : (e : HostAndPort) (f : Bool) (link : L) → WantsLink t.now → f ≡ t.now.needs_fresh → e ≡ t.now.request.endpoint → TakesIdle e f idle link left
      → new ≡ served_by t link true → is ≡ was → Supplies history token_of t new idle left was is false
  by_idle e f link wants fresh of takes after silent = record {
    said = [];
    supplied = reuses link wants (sym fresh ∙ takes.unfresh) (subst (λ x. TakesNewest x idle.links link left.links) of takes.takes) takes.limit after;
    meanwhile = silent ∙ sym (append-nil was);
    delays = refl;
  }

  must_open : (e : HostAndPort) (f : Bool) (taken : Idle L) → f ≡ t.now.needs_fresh → e ≡ t.now.request.endpoint → HasNoIdle e f idle taken → MustOpen t idle
  must_open e f taken fresh of none = why none.why where
    why : (f ≡ true) ⊎ HasNone e idle.links → MustOpen t idle
    why (inl only) = inl (sym fresh ∙ only)
    why (inr others) = inr (subst (λ x. HasNone x idle.links) of others)

  -- the gate said that it can't open one yet
  pub by_delay : (e : HostAndPort) (f can : Bool) → WantsLink t.now → f ≡ t.now.needs_fresh → e ≡ t.now.request.endpoint → HasNoIdle e f idle left → can ≡ false → new ≡ t
      → is ≡ was ++ asked e can ∷ [] → Supplies history token_of t new idle left was is true
  by_delay e f can wants fresh of none cannot same noted = record {
    said = asked t.now.request.endpoint false ∷ [];
    supplied = delays wants (must_open e f left fresh of none) none.same same;
    meanwhile = noted ∙ ap (λ (b : Bool). was ++ asked e b ∷ []) cannot ∙ ap (λ (x : HostAndPort). was ++ asked x false ∷ []) of;
    delays = refl;
  }

  said_then : (e : HostAndPort) (can : Bool) (mid : List Said) (more : HostAndPort → List Said) → e ≡ t.now.request.endpoint → can ≡ true → mid ≡ was ++ asked e can ∷ [] → is ≡ mid ++ more e
      → is ≡ was ++ asked t.now.request.endpoint true ∷ more t.now.request.endpoint
  said_then e can mid more of may before after =
      after ∙ ap (λ (x : List Said). x ++ more e) before ∙ append_assoc was (asked e can ∷ []) (more e)
      ∙ ap (λ (b : Bool). was ++ asked e b ∷ more e) may ∙ ap (λ (x : HostAndPort). was ++ asked x true ∷ more x) of

  -- it said that it can, and what it then answered was handed on
  pub by_gate : (e : HostAndPort) (f can : Bool) (taken : Idle L) (mid : List Said) (answer : Result L Code) → WantsLink t.now → f ≡ t.now.needs_fresh → e ≡ t.now.request.endpoint → HasNoIdle e f idle taken
      → IfOk answer (λ link. history link ≡ []) → IfErr answer (λ c. is_link_code c ≡ true) → MatchResult answer (λ link. new ≡ served_by t link false) (λ c. new ≡ unserved t c)
      → can ≡ true → mid ≡ was ++ asked e can ∷ [] → Opens token_of e taken left mid is answer → Supplies history token_of t new idle left was is false
  by_gate e f can taken mid (Ok link) wants fresh of none empty code after may noted (at_once some stays opening) = record {
    said = asked t.now.request.endpoint true ∷ opened t.now.request.endpoint (Ok (token_of link)) ∷ [];
    supplied = opens link wants (must_open e f taken fresh of none) (stays ∙ none.same) empty after;
    meanwhile = said_then e can mid (λ x. opened x (Ok (token_of link)) ∷ []) of may noted opening;
    delays = refl;
  }
  by_gate e f can taken mid (Ok link) wants fresh of none empty code after may noted (refused never stays opening) = absurd never
  by_gate e f can taken mid (Ok link) wants fresh of none empty code after may noted (once_more c cause stays opening) = record {
    said = asked t.now.request.endpoint true ∷ opened t.now.request.endpoint (Err c) ∷ lacked true ∷ asked t.now.request.endpoint true ∷ opened t.now.request.endpoint (Ok (token_of link)) ∷ [];
    supplied = reopens c link wants (must_open e f taken fresh of none) (stays ∙ ap cleared none.same) cause empty after;
    meanwhile = said_then e can mid (λ x. opened x (Err c) ∷ lacked true ∷ asked x true ∷ opened x (Ok (token_of link)) ∷ []) of may noted opening;
    delays = refl;
  }
  by_gate e f can taken mid (Err c) wants fresh of none empty code after may noted (at_once never stays opening) = absurd never
  by_gate e f can taken mid (Err c) wants fresh of none empty code after may noted (refused some stays opening) = record {
    said = asked t.now.request.endpoint true ∷ opened t.now.request.endpoint (Err c) ∷ lacked false ∷ [];
    supplied = fails c wants (must_open e f taken fresh of none) (stays ∙ none.same) code after;
    meanwhile = said_then e can mid (λ x. opened x (Err c) ∷ lacked false ∷ []) of may noted opening;
    delays = refl;
  }
  by_gate e f can taken mid (Err again) wants fresh of none empty code after may noted (once_more c cause stays opening) = record {
    said = asked t.now.request.endpoint true ∷ opened t.now.request.endpoint (Err c) ∷ lacked true ∷ asked t.now.request.endpoint true ∷ opened t.now.request.endpoint (Err again) ∷ [];
    supplied = gives_up c again wants (must_open e f taken fresh of none) (stays ∙ ap cleared none.same) cause code after;
    meanwhile = said_then e can mid (λ x. opened x (Err c) ∷ lacked true ∷ asked x true ∷ opened x (Err again) ∷ []) of may noted opening;
    delays = refl;
  }

  -- it couldn't open one since too many files were open, and then said that none can be opened yet
  pub by_put_off_again : (e : HostAndPort) (f can : Bool) (taken : Idle L) (mid : List Said) → WantsLink t.now → f ≡ t.now.needs_fresh → e ≡ t.now.request.endpoint → HasNoIdle e f idle taken → new ≡ t
      → can ≡ true → mid ≡ was ++ asked e can ∷ [] → IsPutOff e taken left mid is → Supplies history token_of t new idle left was is true
  by_put_off_again e f can taken mid wants fresh of none same may noted off = record {
    said = asked t.now.request.endpoint true ∷ opened t.now.request.endpoint (Err off.code) ∷ lacked true ∷ asked t.now.request.endpoint false ∷ [];
    supplied = puts_off off.code wants (must_open e f taken fresh of none) (off.dropped ∙ ap cleared none.same) off.cause same;
    meanwhile = said_then e can mid (λ x. opened x (Err off.code) ∷ lacked true ∷ asked x false ∷ []) of may noted off.meanwhile;
    delays = refl;
  }

-- the gate couldn't open a link since too many files were open, and was asked whether it can open one once more
module _ {L : Type 0} (e : HostAndPort) (idle left : Idle L) (was mid later asked_again : List Said) (c : Code) (lacks can : Bool) where
  second : (b : Bool) → left ≡ cleared idle → mid ≡ was ++ opened e (Err c) ∷ [] → lacks ≡ true → later ≡ mid ++ lacked lacks ∷ [] → can ≡ b → asked_again ≡ later ++ asked e can ∷ []
      → asked_again ≡ was ++ opened e (Err c) ∷ lacked true ∷ asked e b ∷ []
  second b dropped first lack then may again =
      let two : later ≡ was ++ opened e (Err c) ∷ lacked true ∷ [] =
      then ∙ ap (λ (b : Bool). mid ++ lacked b ∷ []) lack ∙ ap (λ (x : List Said). x ++ lacked true ∷ []) first ∙ append_assoc was (opened e (Err c) ∷ []) (lacked true ∷ []) in
      again ∙ ap (λ (b : Bool). later ++ asked e b ∷ []) may ∙ ap (λ (x : List Said). x ++ asked e b ∷ []) two ∙ append_assoc was (opened e (Err c) ∷ lacked true ∷ []) (asked e b ∷ [])

  pub by_put_off : is_link_code c ≡ true → left ≡ cleared idle → mid ≡ was ++ opened e (Err c) ∷ [] → lacks ≡ true → later ≡ mid ++ lacked lacks ∷ [] → can ≡ false → asked_again ≡ later ++ asked e can ∷ []
      → IsPutOff e idle left was asked_again
  by_put_off cause dropped first lack then may again = record { code = c; cause = cause; dropped = dropped; meanwhile = second false dropped first lack then may again }

  pub by_second : (token_of : L → ℕ) (answer : Result L Code) (is : List Said) → is_link_code c ≡ true → left ≡ cleared idle → mid ≡ was ++ opened e (Err c) ∷ [] → lacks ≡ true → later ≡ mid ++ lacked lacks ∷ [] → can ≡ true
      → asked_again ≡ later ++ asked e can ∷ [] → is ≡ asked_again ++ opened e (numbered token_of answer) ∷ [] → Opens token_of e idle left was is answer
  by_second token_of answer is cause dropped first lack then may again third =
      once_more c cause dropped (third ∙ ap (λ (x : List Said). x ++ opened e (numbered token_of answer) ∷ []) (second true dropped first lack then may again)
      ∙ append_assoc was (opened e (Err c) ∷ lacked true ∷ asked e true ∷ []) (opened e (numbered token_of answer) ∷ []))

-- the link that was left was put under a copy of its endpoint
pub by_put : {L : Type 0} (t : ChainState L) (idle new : Idle L) (link : L) (home copy : HostAndPort) → t.link ≡ Some link → home_of t ≡ Some home → copy ≡ home
    → new ≡ record idle { links = kept idle.limit (idle.links ++ (copy, link) ∷ []) } → Keeps t idle new
by_put t idle new link home copy had goes of is =
    puts link home had goes (subst (λ x. new ≡ record idle { links = kept idle.limit (idle.links ++ (x, link) ∷ []) }) of is)
