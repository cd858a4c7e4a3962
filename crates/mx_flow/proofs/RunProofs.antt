-- A reader of chunks in a piece.
use Rattle.std.proofs.Common.{◌≡◌, ℕ, ◌+◌, ◌<◌, ◌≤◌, true, false, List, [], ◌∷◌, ◌++◌, length, take, refl, sym, ap, ◌∙◌, arith, length-append}
use Rattle.std.proofs.lemmas.List.{take_all, take_at}
use Rattle.mx_body.specs.declared.chunked.place.ChunkedPlace.{ChunkedPlace}
use Rattle.mx_body.specs.ChunkedPlace.{place_after, is_settled, data_left}
use Rattle.mx_flow.specs.Steps.{place_of}
use Rattle.mx_flow.specs.Runs.{run_data, WasGoing, WasTakenAt, HasRun}
use Rattle.mx_flow.specs.declared.place.WidePlace.{WidePlace}
use Rattle.mx_flow.proofs.DataLemmas.{one_more}

-- so far nothing is settled
pub record GoesOn (limit : ℕ) (from : ChunkedPlace) (room : ℕ) (input : List ℕ) (at : WidePlace) (read left : ℕ) : Type 0 where
  pub within : read ≤ length input
  pub leads : place_of at ≡ place_after limit from (take read input)
  pub left_is : left + length (run_data limit from input read) ≡ room
  pub live : is_settled (place_of at) ≡ false

module _ (limit : ℕ) (from : ChunkedPlace) (room : ℕ) (input : List ℕ) (at : WidePlace) (read left : ℕ) (on : GoesOn limit from room input at read left) where
  pub was_going : WasGoing limit from room input (read + 1)
  was_going = (read, refl, ap is_settled (sym on.leads) ∙ on.live, omega (arith, on.left_is))

  pub was_taken : WasTakenAt limit from input (read + 1) (place_of at)
  was_taken = (read, refl, on.leads)

  -- the next byte is one of content too many
  pub over_run : (before after : List ℕ) → after ≡ before ++ run_data limit from input read → read < length input → left ≡ 0 → 0 < data_left (place_of at)
      → HasRun limit from room input (record { place = at; before = at; len = read + 1; room = 0; over = true }) before after
  over_run before after had some full inside =
      let one = one_more limit from (place_of at) read input some on.leads inside in
      let exact : length (run_data limit from input read) ≡ room = omega (arith, on.left_is, full) in
      record {
        within = omega (arith, some);
        place = λ e. (let both : true ≡ false = e in cc);
        room_is = λ e. (let both : true ≡ false = e in cc);
        over = λ e. omega (arith, exact, ap length one.1, length-append (run_data limit from input read) (one.0 ∷ []));
        handed = had ∙ ap (λ t. before ++ t) (sym (ap (take room) one.1 ∙ take_at (run_data limit from input read) (one.0 ∷ []) room exact));
        all = λ e live. (let both : true ≡ false = e in cc);
        last = λ e. was_going;
        settled = λ e s. (let both : true ≡ false = e in cc);
        before_is = λ e s. (let both : true ≡ false = e in cc);
      }

-- the bytes led somewhere
pub led_run : (limit : ℕ) (from : ChunkedPlace) (room : ℕ) (input : List ℕ) (at last : WidePlace) (read left : ℕ) (before after : List ℕ)
    → read ≤ length input → place_of at ≡ place_after limit from (take read input) → left + length (run_data limit from input read) ≡ room
    → after ≡ before ++ run_data limit from input read → (is_settled (place_of at) ≡ false → read ≡ length input)
    → (is_settled (place_of at) ≡ true → WasGoing limit from room input read) → (is_settled (place_of at) ≡ true → WasTakenAt limit from input read (place_of last))
    → HasRun limit from room input (record { place = at; before = last; len = read; room = left; over = false }) before after
led_run limit from room input at last read left before after within leads left_is had all settled taken = record {
  within = within;
  place = λ e. leads;
  room_is = λ e. left_is;
  over = λ e. (let both : false ≡ true = e in cc);
  handed = had ∙ ap (λ t. before ++ t) (sym (take_all room (run_data limit from input read) (omega (arith, left_is))));
  all = λ e live. all live;
  last = λ e. (let both : false ≡ true = e in cc);
  settled = λ e s. settled s;
  before_is = λ e s. taken s;
}
