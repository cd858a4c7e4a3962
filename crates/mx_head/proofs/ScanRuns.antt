-- Bytes that leave a scan where it is.
use Rattle.std.proofs.Common.{◌≡◌, ℕ, ◌+◌, Bool, true, cond, List, [], ◌∷◌, take, drop, fold, refl, ap, ◌∙◌}
use Rattle.std.specs.Prelude.{◌==◌}
use Rattle.std.proofs.lemmas.List.Elements.{All-head, All-tail}
use Rattle.std.proofs.lemmas.List.Sums.{fold-append}
use Rattle.std.proofs.Math.Seq.{take-add}
use Rattle.httparse.specs.Grammar.{AllPass, is_token_byte, is_value_byte}
use Rattle.mx_head.specs.declared.scan.Spot.TheVariants.{Text, Name, Settled}
use Rattle.mx_head.specs.declared.scan.Reached.{Reached}
use Rattle.mx_head.specs.Scan.{line_end, reached, after, start, after_all}

pub text_stays : (n : ℕ) (w : List ℕ) → AllPass is_value_byte w → fold after (reached Text n) w ≡ reached Text n
text_stays n [] all = refl
text_stays n (b ∷ w) all =
    ap (λ (v : Bool). fold after (reached (cond v Text (line_end b)) n) w) (All-head (λ x. is_value_byte x ≡ true) b w all) ∙ text_stays n w (All-tail (λ x. is_value_byte x ≡ true) b w all)

pub name_stays : (n : ℕ) (w : List ℕ) → AllPass is_token_byte w → fold after (reached Name n) w ≡ reached Name n
name_stays n [] all = refl
name_stays n (b ∷ w) all =
    ap (λ (v : Bool). fold after (reached (cond v Name (cond (b == 58) Text Settled)) n) w) (All-head (λ x. is_token_byte x ≡ true) b w all) ∙ name_stays n w (All-tail (λ x. is_token_byte x ≡ true) b w all)

-- a run of them
pub run_on : (text : List ℕ) (read run : ℕ) (r : Reached) → after_all (take read text) ≡ r → fold after r (take run (drop read text)) ≡ r → after_all (take (read + run) text) ≡ r
run_on text read run r there stays =
    ap after_all (take-add read run text) ∙ fold-append after start (take read text) (take run (drop read text)) ∙ ap (λ (q : Reached). fold after q (take run (drop read text))) there ∙ stays
