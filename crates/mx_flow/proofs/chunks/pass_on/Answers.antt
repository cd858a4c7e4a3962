use Rattle.std.proofs.Common.{◌≡◌, ◌+◌, ◌++◌, ℕ, true, false, length, sym, ap, subst, ◌∙◌, arith, rules}
use Rattle.std.proofs.lemmas.List.{append-nil, take_rest, length-drop}
use Rattle.mx_body.specs.declared.chunked.place.ChunkedPlace.{ChunkedPlace}
use Rattle.mx_body.specs.ChunkedPlace.{is_settled}
use Rattle.mx_body.proofs.ChunkedRun.{place_after-nil}
use Rattle.mx_flow.specs.Steps.{place_of}
use Rattle.mx_flow.specs.Runs.{WasGoing, WasTakenAt}
use Rattle.mx_flow.proofs.DataLemmas.{data_from-nil, led_on, handed_on, room_on}
use Rattle.mx_flow.proofs.RunProofs.{was_going, was_taken, over_run, led_run}
use Rattle.mx_flow.proofs.chunks.pass_on.Goals as goal

pub loop-read-init : goal.loop-read-init
loop-read-init c =
    let none = data_from-nil c.args.limit (place_of c.args.from) in
    record {
      on = record {
        within = omega arith;
        leads = sym (place_after-nil c.args.limit (place_of c.args.from));
        left_is = omega (arith, ap length none);
        live = c.requires.going;
      };
      given = sym (ap (λ t. c.args.out.now.items ++ t) none ∙ append-nil c.args.out.now.items);
      counted = search rules;
    }

pub returns-then-data_left-gt0-clause-run : goal.returns-then-data_left-gt0-clause-run
returns-then-data_left-gt0-clause-run c =
    let l = c.loop-read in
    over_run c.args.limit (place_of c.args.from) c.args.room c.args.input.now l.place l.read l.left l.invariant.on c.args.out.now.items l.out.items l.invariant.given
    c.loop-read-test.true (omega (arith, c.if-left-eq0.true)) (omega (arith, c.data_left.ensures, c.if-data_left-gt0.true))

pub returns-then-is_settled-clause-run : goal.returns-then-is_settled-clause-run
returns-then-is_settled-clause-run c =
    let l = c.loop-read in
    let on = l.invariant.on in
    let run = c.in-Ok.run' in
    let p = place_of c.args.from in
    let input = c.args.input.now in
    let ends : is_settled (place_of run.place) ≡ true = sym c.is_settled.ensures ∙ c.if-is_settled.true in
    let long = ap length (take_rest input l.read) ∙ length-drop l.read input in
    led_run c.args.limit p c.args.room input run.place run.before (l.read + run.len) run.room c.args.out.now.items c.pass_run.new.out.items
    (omega (arith, on.within, c.in-Ok.ensures.within, long))
    (led_on c.args.limit input p l.read run.len (place_of l.place) (place_of run.place) on.leads c.in-Ok.ensures.place)
    (room_on c.args.limit input p l.read run.len (place_of l.place) c.args.room l.left run.room on.leads on.left_is c.in-Ok.ensures.room)
    (handed_on c.args.limit input p l.read run.len (place_of l.place) c.args.out.now.items l.out.items c.pass_run.new.out.items on.leads l.invariant.given c.in-Ok.ensures.given)
    (λ live. (let both : true ≡ false = sym ends ∙ live in absurd (cc)))
    (λ settled. subst (λ (n : ℕ). WasGoing c.args.limit p c.args.room input (l.read + n)) (sym (c.in-Ok.ensures.by_one_byte ends))
    (was_going c.args.limit p c.args.room input l.place l.read l.left on))
    (λ settled. subst (λ (at : ChunkedPlace). WasTakenAt c.args.limit p input (l.read + run.len) at) (ap place_of (sym c.in-Ok.ensures.before))
    (subst (λ (n : ℕ). WasTakenAt c.args.limit p input (l.read + n) (place_of l.place)) (sym (c.in-Ok.ensures.by_one_byte ends))
    (was_taken c.args.limit p c.args.room input l.place l.read l.left on)))

pub loop-read-preserved : goal.loop-read-preserved
loop-read-preserved c =
    let l = c.loop-read in
    let on = l.invariant.on in
    let run = c.in-Ok.run' in
    let p = place_of c.args.from in
    let input = c.args.input.now in
    let long = ap length (take_rest input l.read) ∙ length-drop l.read input in
    record {
      on = record {
        within = omega (arith, on.within, c.in-Ok.ensures.within, long);
        leads = led_on c.args.limit input p l.read run.len (place_of l.place) (place_of run.place) on.leads c.in-Ok.ensures.place;
        left_is = room_on c.args.limit input p l.read run.len (place_of l.place) c.args.room l.left run.room on.leads on.left_is c.in-Ok.ensures.room;
        live = sym c.is_settled.ensures ∙ c.if-is_settled.false;
      };
      given = handed_on c.args.limit input p l.read run.len (place_of l.place) c.args.out.now.items l.out.items c.pass_run.new.out.items on.leads l.invariant.given c.in-Ok.ensures.given;
      counted = l.invariant.counted;
    }
