-- What a `Head` keeps decides the two rules as the head that it describes does.
use Rattle.std.proofs.Common.{◌≡◌, ℕ, Bool, true, false, not, cond, ◌&&◌, ◌||◌, List, [], ◌∷◌, refl, ap, ◌∙◌}
use Rattle.std.specs.Prelude.{codes, ◌==◌, filter, Ok, Err}
use Rattle.std.specs.List.{list_all}
use Rattle.std.specs.Str.Parse.{digits_value}
use Rattle.httparse.specs.Grammar.{ResponseHead, status_code}
use Rattle.mx_types.specs.declared.code.Code.TheVariants.{WeirdServerReply, BadContentEncoding}
use Rattle.mx_types.specs.declared.method.Method.{Method}
use Rattle.mx_head.specs.declared.types.Framing.TheVariants.{Empty, Counted}
use Rattle.mx_head.specs.declared.types.Coding.{Coding}
use Rattle.mx_head.specs.declared.types.Coding.TheVariants as coding
use Rattle.mx_head.specs.declared.types.Length.{Length}
use Rattle.mx_head.specs.declared.types.Length.TheVariants as sized
use Rattle.mx_head.specs.Fields.{elements, lines_of}
use Rattle.mx_head.specs.Framing.{has_no_body, by_length, chunked_framing, by_fields, framing_of, keeps_of, is_there, is_blank, is_chunked_alone, is_number, is_number_of}
use Rattle.mx_head.specs.Laws.{SummaryDecides}
use Rattle.mx_head.specs.Summary.{Summary, Describes, coding_of, length_of, by_length_kept, by_coded, by_kept, is_coded, is_sized, framing_by, keeps_by}

by_length_test : (t : Bool) (n : ℕ)
    → by_length_kept (cond t (sized.Counted n) sized.Invalid) ≡ cond t (Ok (Counted n)) (Err WeirdServerReply)
by_length_test true n = refl
by_length_test false n = refl

by_length_agrees : (ls : List (List ℕ)) → by_length_kept (length_of ls) ≡ by_length ls
by_length_agrees [] = refl
by_length_agrees (e ∷ es) = by_length_test (is_number e && list_all (is_number_of (digits_value 10 e)) es) _

-- with a Transfer-Encoding, Content-Length counts for nothing
pub by_kept_coded : (minor : ℕ) (c : Coding) (l : Length) → is_coded c ≡ true → by_coded minor c ≡ by_kept minor c l
by_kept_coded minor coding.Absent l is = cc
by_kept_coded minor coding.Chunked l is = refl
by_kept_coded minor coding.Other l is = refl

pub by_kept_uncoded : (minor : ℕ) (c : Coding) (l : Length) → is_coded c ≡ false → by_length_kept l ≡ by_kept minor c l
by_kept_uncoded minor coding.Absent l is = refl
by_kept_uncoded minor coding.Chunked l is = cc
by_kept_uncoded minor coding.Other l is = cc

by_kept_test : (minor : ℕ) (l : Length) (t : Bool)
    → by_kept minor (cond t coding.Chunked coding.Other) l
    ≡ cond (minor == 0) (Err WeirdServerReply) (cond t chunked_framing (Err BadContentEncoding))
by_kept_test minor l true = refl
by_kept_test minor l false = refl

by_kept_agrees : (minor : ℕ) (cs ls : List (List ℕ)) → by_kept minor (coding_of cs) (length_of ls) ≡ by_fields minor cs ls
by_kept_agrees minor [] ls = by_length_agrees ls
by_kept_agrees minor (c ∷ cs) ls = by_kept_test minor (length_of ls) (is_chunked_alone (filter (λ x. not (is_blank x)) (c ∷ cs)))

coded_test : (t : Bool) → is_coded (cond t coding.Chunked coding.Other) ≡ true
coded_test true = refl
coded_test false = refl

coded_agrees : (cs : List (List ℕ)) → is_coded (coding_of cs) ≡ is_there cs
coded_agrees [] = refl
coded_agrees (c ∷ cs) = coded_test (is_chunked_alone (filter (λ x. not (is_blank x)) (c ∷ cs)))

sized_test : (t : Bool) (n : ℕ) → is_sized (cond t (sized.Counted n) sized.Invalid) ≡ true
sized_test true n = refl
sized_test false n = refl

sized_agrees : (ls : List (List ℕ)) → is_sized (length_of ls) ≡ is_there ls
sized_agrees [] = refl
sized_agrees (e ∷ es) = sized_test (is_number e && list_all (is_number_of (digits_value 10 e)) es) _

pub framing_agrees : (m : Method) (x : Summary) (h : ResponseHead) → Describes x h
    → framing_by m x ≡ framing_of m h
unfolding framing_of
framing_agrees m x h d =
    let codings = elements (codes "transfer-encoding") (lines_of h) in
    let lengths = elements (codes "content-length") (lines_of h) in
    (λ i. cond (has_no_body m (d.status i)) (Ok Empty) (by_kept (d.minor i) (d.coding i) (d.length i)))
    ∙ ap (λ r. cond (has_no_body m (status_code h)) (Ok Empty) r) (by_kept_agrees h.minor codings lengths)

pub keeps_agrees : (x : Summary) (h : ResponseHead) → Describes x h
    → keeps_by x ≡ keeps_of h
unfolding keeps_of
keeps_agrees x h d =
    let codings = elements (codes "transfer-encoding") (lines_of h) in
    let lengths = elements (codes "content-length") (lines_of h) in
    (λ i. not (d.close i) && (not (d.minor i == 0) || d.keep_alive i) && not ((ap is_coded d.coding ∙ coded_agrees codings) i && ((ap is_sized d.length ∙ sized_agrees lengths) i || (d.minor i == 0))))

pub summary_decides : SummaryDecides
summary_decides m x h d = (framing_agrees m x h d, keeps_agrees x h d)
