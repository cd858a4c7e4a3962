use Rattle.std.proofs.Common.{rules, ◌≡◌, ◌≢◌, ◌∙◌, ◌++◌, ap, sym, subst, List, Some, true, length, arith}
use Rattle.std.specs.Option.{option_to_list}
use Rattle.mx_types.specs.declared.event.Event.{Event}
use Rattle.mx_history.specs.History.{is_legal, made_by}
use Rattle.mx_append_log.specs.Log.{Mark}
use Rattle.mx_board.specs.Board.{mark_of, ReaderState, Reads}
use Rattle.mx_append_log.proofs.Prefixes.{prefix_whole}
use Rattle.mx_board.proofs.Reading.{reader_at, shows, reads_same, reads_more}
use Rattle.mx_board.proofs.reader.BoardReader.ask.Goals as goal

pub returns-then-cut-self : goal.returns-then-cut-self
returns-then-cut-self g c =
    let f = rw c.in-Some-reading.is at c.look-place.ensures in
    let is : c.self.inside.place ≡ Some c.in-Some.place = search rules in
    let known = rw is at c.self.invariant.0 in
    let me = c.self.inside in
    let seen : List Event = me.mark.entries ++ option_to_list me.unconfirmed in
    let told = shows (mark_of seen me.mark.book) _ _ f.0 f.0.1.entries f.0.1.book known f.2 (search rules) in
    let same : seen ≡ f.0.1.entries = prefix_whole seen f.0.1.entries told.later (omega (arith, f.5, c.if-cut-self.true, c.self.invariant.3)) in
    let reads = reads_same me.who me.mark.entries me.unconfirmed me.mark.book (subst (λ (l : List Event). is_legal l ≡ true) (sym same) told.legal) in (
      subst (λ (s : ReaderState). Reads s (reader_at me.who me.mark.entries me.unconfirmed me.mark.book)) c.self.view_is reads,
      subst (λ (l : List Event). g.Q.Query.is_answer c.args.query.now l c.in-Some-reading.reading.answer) (sym same) f.3,
    )

pub returns : goal.returns
returns g c =
    let f = rw c.in-Some-reading.is at c.look-place.ensures in
    let is : c.self.inside.place ≡ Some c.in-Some.place = search rules in
    let known = rw is at c.self.invariant.0 in
    let me = c.self.inside in
    let it = c.in-Some-reading.reading in
    let seen : List Event = me.mark.entries ++ option_to_list me.unconfirmed in
    let shown : List Event = it.mark.entries ++ option_to_list it.last in
    let told = shows (mark_of seen me.mark.book) _ _ f.0 shown it.mark.book known f.2 f.1 in
    let count : it.cut ≡ length shown = f.5 ∙ ap (λ (m : Mark Event). length m.entries) f.1 in
    let more : length shown ≢ length seen = λ e. c.if-cut-self.false (count ∙ e ∙ sym c.self.invariant.3) in
    let own : made_by me.who shown ≡ made_by me.who seen =
    ap (λ (m : Mark Event). made_by me.who m.entries) (sym f.1) ∙ sym f.4 ∙ c.if-made-self.false ∙ c.self.invariant.1 in
    let reads = reads_more me.who me.mark.entries it.mark.entries me.unconfirmed it.last me.mark.book it.mark.book told.later more told.legal told.book own in (
      subst (λ (s : ReaderState). Reads s (reader_at me.who it.mark.entries it.last it.mark.book)) c.self.view_is reads,
      subst (λ (m : Mark Event). g.Q.Query.is_answer c.args.query.now m.entries it.answer) f.1 f.3,
    )

pub invariant_of-self-2 : goal.invariant_of-self-2
invariant_of-self-2 g c = search rules
