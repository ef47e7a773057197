-- Each text has tokens or a fault.
use Rattle.std.proofs.Common.{◌≡◌, ◌≢◌, ℕ, zero, suc, ◌+◌, ◌≤◌, false, ◌==◌, List, [], ◌∷◌, ◌++◌, length, get_or, take, drop, None, Some, refl, sym, ap, subst, ◌∙◌, arith, inl, inr, ◌⊎◌, codes}
use Rattle.std.specs.Prelude.{slice_index}
use Rattle.std.specs.List.{prefix_len}
use Rattle.std.specs.Char.{is_ascii_digit}
use Rattle.std.proofs.lemmas.Bool.{cases_Bool, eqb-true, eqb-false, cases_lt}
use Rattle.std.proofs.lemmas.List.{length-drop}
use Rattle.std.proofs.lemmas.List.Sums.{prefix_len-le-length}
use Rattle.tt_lex.specs.declared.scan.Inside.{Inside}
use Rattle.tt_lex.specs.declared.scan.Front.{Front}
use Rattle.tt_lex.specs.declared.Token.{Token}
use Rattle.tt_lex.specs.declared.LexFault.{LexFault}
use Rattle.tt_lex.specs.declared.LexFault.TheVariants.{BadByte, UnclosedText, UnclosedComment, BackslashInText, TextTooLong}
use Rattle.tt_lex.specs.declared.TokenKind.TheVariants as kinds
use Rattle.tt_lex.specs.Lexis.{is_white, is_word_start, is_word_part, is_line_byte, is_text_byte, is_sign, is_quote, doubled, NotClosed, StopsAt, BeginsNothing, RefusesInText, IsFault, HasTokens, HasFault, with_token}
use Rattle.tt_lex.specs.Scanning.{Takes, Closes, BeginsNoOther}
use Rattle.tt_lex.specs.answer.Fronts.{takes_white, takes_word, takes_number, takes_line, takes_block, takes_long, takes_short, takes_text, refuses, quoted_at}
use Rattle.tt_lex.specs.answer.Pieces.{HasRead, at_start, one_more, takes_some, at_end, at_fault}

-- a piece at the front, or a fault
abbrev pub HasFront : ℕ → List ℕ → Type 0
HasFront at rest = ((front : Front) × Takes rest front) ⊎ ((fault : LexFault) × IsFault fault at rest)

-- ---- quoted texts

abbrev ClosesOrNot : List ℕ → Type 0
ClosesOrNot rest = ((inside : Inside) × Closes rest inside) ⊎ ((text : List ℕ) × (rest ≡ doubled text))

closes_here : (behind : List ℕ) → StopsAt is_quote behind → ClosesOrNot (39 ∷ behind)
closes_here behind ends = inl (record { written = 0; meant = 0 }, record { text = []; behind = behind; parts = refl; ends = ends; written_is = refl; meant_is = refl })

one_quote : (rest : List ℕ) → ClosesOrNot rest → ClosesOrNot (39 ∷ 39 ∷ rest)
one_quote rest (inl found) = inl (
  record { written = found.0.written + 2; meant = found.0.meant + 1 },
  record {
    text = 39 ∷ found.1.text;
    behind = found.1.behind;
    parts = ap (λ (xs : List ℕ). 39 ∷ 39 ∷ xs) found.1.parts;
    ends = found.1.ends;
    written_is = omega (arith, found.1.written_is);
    meant_is = omega (arith, found.1.meant_is);
  },
)
one_quote rest (inr none) = inr (39 ∷ none.0, ap (λ (xs : List ℕ). 39 ∷ 39 ∷ xs) none.1)

one_other : (b : ℕ) (rest : List ℕ) → is_quote b ≡ false → ClosesOrNot rest → ClosesOrNot (b ∷ rest)
one_other b rest other (inl found) = inl (
  record { written = found.0.written + 1; meant = found.0.meant + 1 },
  record {
    text = b ∷ found.1.text;
    behind = found.1.behind;
    parts = rw other (ap (λ (xs : List ℕ). b ∷ xs) found.1.parts);
    ends = found.1.ends;
    written_is = rw other (omega (arith, found.1.written_is));
    meant_is = omega (arith, found.1.meant_is);
  },
)
one_other b rest other (inr none) = inr (b ∷ none.0, rw other (ap (λ (xs : List ℕ). b ∷ xs) none.1))

closes_or_not : (rest : List ℕ) → ClosesOrNot rest
closes_or_not [] = inr ([], refl)
closes_or_not (b ∷ []) = elim (cases_Bool (is_quote b)) [
  | inl quote ↦ subst (λ (c : ℕ). ClosesOrNot (c ∷ [])) (sym (eqb-true b 39 quote)) (closes_here [] tt)
  | inr other ↦ one_other b [] other (inr ([], refl))
]
closes_or_not (b ∷ c ∷ rest) = elim (cases_Bool (is_quote b)) [
  | inl quote ↦ subst (λ (x : ℕ). ClosesOrNot (x ∷ c ∷ rest)) (sym (eqb-true b 39 quote)) (elim (cases_Bool (is_quote c)) [
    | inl again ↦ subst (λ (x : ℕ). ClosesOrNot (39 ∷ x ∷ rest)) (sym (eqb-true c 39 again)) (one_quote rest (closes_or_not rest))
    | inr ends ↦ closes_here (c ∷ rest) ends
  ])
  | inr other ↦ one_other b (c ∷ rest) other (closes_or_not (c ∷ rest))
]

text_front : (at : ℕ) (rest : List ℕ) (inside : Inside) → Closes rest inside → HasFront at (39 ∷ rest)
text_front at rest inside found =
    let text = take inside.written rest in
    let allowed = prefix_len is_text_byte text in
    elim (cases_lt 65535 inside.meant) [
      | inl long ↦ inr (TextTooLong at, (refl, found.text, quoted_at rest inside found, omega (arith, found.meant_is)))
      | inr short ↦ elim (cases_lt allowed (length text)) [
        | inl some ↦ (
            let r = refuses rest inside allowed found short refl some in
            elim (cases_Bool (get_or text allowed 0 == 92)) [
              | inl backslash ↦ inr (BackslashInText (at + length r.0), (r.0, subst (RefusesInText (39 ∷ rest) r.0) (eqb-true (get_or text allowed 0) 92 backslash) r.1, refl))
              | inr other ↦ inr (BadByte (at + length r.0), inr (r.0, get_or text allowed 0, r.1, eqb-false (get_or text allowed 0) 92 other, refl))
            ])
        | inr all ↦ inl (record { kind = Some kinds.Quoted; length = inside.written + 2 }, takes_text rest inside allowed found short refl (omega (arith, prefix_len-le-length is_text_byte text)))
      ]
    ]

quote_front : (at : ℕ) (rest : List ℕ) → HasFront at (39 ∷ rest)
quote_front at rest = elim (closes_or_not rest) [
  | inl found ↦ text_front at rest found.0 found.1
  | inr none ↦ inr (UnclosedText at, (refl, none.0, ap (λ (xs : List ℕ). 39 ∷ xs) none.1))
]

-- ---- comments

abbrev EndsOrNot : List ℕ → Type 0
EndsOrNot rest = ((body : List ℕ) × (behind : List ℕ) × (rest ≡ body ++ (codes "*/" ++ behind)) × NotClosed body) ⊎ NotClosed rest

-- a star in front of what does not begin with a slash closes nothing
unclosed-cons : (b : ℕ) (bytes : List ℕ) → (b ≡ 42 → slice_index bytes 0 ≢ 47) → NotClosed bytes → NotClosed (b ∷ bytes)
unclosed-cons b bytes here later zero star = here star
unclosed-cons b bytes here later (suc k) star =
    let next : suc (k + 1) ≡ suc k + 1 = omega arith in
    λ h. later k star (ap (λ (n : ℕ). slice_index (b ∷ bytes) n) next ∙ h)

first_of : (rest body behind : List ℕ) → rest ≡ body ++ (42 ∷ behind) → slice_index rest 0 ≢ 47 → slice_index body 0 ≢ 47
first_of rest [] behind e other = λ h. absurd (omega (arith, h))
first_of rest (c ∷ body) behind e other = λ h. other (ap (λ (xs : List ℕ). slice_index xs 0) e ∙ h)

ends-cons : (b : ℕ) (rest : List ℕ) → (b ≡ 42 → slice_index rest 0 ≢ 47) → EndsOrNot rest → EndsOrNot (b ∷ rest)
ends-cons b rest here (inl found) = inl (b ∷ found.0, found.1, ap (λ (xs : List ℕ). b ∷ xs) found.2, unclosed-cons b found.0 (λ star. first_of rest found.0 (47 ∷ found.1) found.2 (here star)) found.3)
ends-cons b rest here (inr none) = inr (unclosed-cons b rest here none)

ends_or_not : (rest : List ℕ) → EndsOrNot rest
ends_or_not [] = inr (λ k star. absurd (omega (arith, star)))
ends_or_not (b ∷ []) = ends-cons b [] (λ star h. absurd (omega (arith, h))) (inr (λ k star. absurd (omega (arith, star))))
ends_or_not (b ∷ c ∷ rest) = elim (cases_Bool (b == 42)) [
  | inl star ↦ elim (cases_Bool (c == 47)) [
    | inl slash ↦ inl ([], rest, ap (λ (x : ℕ). x ∷ c ∷ rest) (eqb-true b 42 star) ∙ ap (λ (x : ℕ). 42 ∷ x ∷ rest) (eqb-true c 47 slash), λ k s. absurd (omega (arith, s)))
    | inr other ↦ ends-cons b (c ∷ rest) (λ s. eqb-false c 47 other) (ends_or_not (c ∷ rest))
  ]
  | inr other ↦ ends-cons b (c ∷ rest) (λ s. absurd (eqb-false b 42 other s)) (ends_or_not (c ∷ rest))
]

comment_front : (at : ℕ) (rest : List ℕ) → HasFront at (codes "/*" ++ rest)
comment_front at rest = elim (ends_or_not rest) [
  | inl found ↦ inl (record { kind = None; length = length found.0 + 4 }, takes_block rest found.0 found.1 (length found.0) found.2 found.3 refl)
  | inr none ↦ inr (UnclosedComment at, (refl, rest, refl, none))
]

-- ---- signs

nothing_begins : (a : ℕ) (more : List ℕ) → StopsAt (λ b. is_sign (a ∷ b ∷ [])) more → BeginsNoOther a more → is_sign (a ∷ []) ≡ false → BeginsNothing (a ∷ more)
nothing_begins a more stopped other none = search (arith)

short_front : (at a : ℕ) (more : List ℕ) → StopsAt (λ b. is_sign (a ∷ b ∷ [])) more → BeginsNoOther a more → HasFront at (a ∷ more)
short_front at a more stopped other = elim (cases_Bool (is_sign (a ∷ []))) [
  | inl sign ↦ inl (record { kind = Some kinds.Sign; length = 1 }, takes_short a more stopped other sign)
  | inr none ↦ inr (BadByte at, inl (refl, nothing_begins a more stopped other none))
]

sign_front : (at a : ℕ) (more : List ℕ) → BeginsNoOther a more → HasFront at (a ∷ more)
sign_front at a [] other = short_front at a [] tt other
sign_front at a (b ∷ more) other = elim (cases_Bool (is_sign (a ∷ b ∷ []))) [
  | inl sign ↦ inl (record { kind = Some kinds.Sign; length = 2 }, takes_long (b ∷ more) more a b refl sign)
  | inr none ↦ short_front at a (b ∷ more) none other
]

-- ---- any front

dash_front : (at : ℕ) (more : List ℕ) → (StopsAt (λ b. b == 45) more → HasFront at (45 ∷ more)) → HasFront at (45 ∷ more)
dash_front at [] other = other tt
dash_front at (c ∷ body) other = elim (cases_Bool (c == 45)) [
  | inl dash ↦ inl (record { kind = None; length = 2 + prefix_len is_line_byte body }, takes_line (45 ∷ c ∷ body) (c ∷ body) body 45 (prefix_len is_line_byte body) refl refl (ap (λ (x : ℕ). x ∷ body) (eqb-true c 45 dash)) refl)
  | inr differs ↦ other differs
]

slash_front : (at : ℕ) (more : List ℕ) → (StopsAt (λ b. b == 42) more → HasFront at (47 ∷ more)) → HasFront at (47 ∷ more)
slash_front at [] other = other tt
slash_front at (c ∷ body) other = elim (cases_Bool (c == 42)) [
  | inl star ↦ subst (λ (x : ℕ). HasFront at (47 ∷ x ∷ body)) (sym (eqb-true c 42 star)) (comment_front at body)
  | inr differs ↦ other differs
]

-- where no white space, word, number or text begins
rest_front : (at a : ℕ) (more : List ℕ) → is_white a ≡ false → is_word_start a ≡ false → is_ascii_digit a ≡ false → a ≢ 39 → HasFront at (a ∷ more)
rest_front at a more no_white no_word no_number no_quote =
    elim (cases_Bool (a == 45)) [
      | inl dash ↦ subst (λ (x : ℕ). HasFront at (x ∷ more)) (sym (eqb-true a 45 dash)) (dash_front at more (λ stops. sign_front at 45 more (record { no_white = refl; no_word = refl; no_number = refl; no_quote = λ h. absurd (omega (arith, h)); no_line_comment = λ _. stops; no_block_comment = λ h. absurd (omega (arith, h)) })))
      | inr no_dash ↦ elim (cases_Bool (a == 47)) [
        | inl slash ↦ subst (λ (x : ℕ). HasFront at (x ∷ more)) (sym (eqb-true a 47 slash)) (slash_front at more (λ stops. sign_front at 47 more (record { no_white = refl; no_word = refl; no_number = refl; no_quote = λ h. absurd (omega (arith, h)); no_line_comment = λ h. absurd (omega (arith, h)); no_block_comment = λ _. stops })))
        | inr no_slash ↦ sign_front at a more (record { no_white = no_white; no_word = no_word; no_number = no_number; no_quote = no_quote; no_line_comment = λ h. absurd (eqb-false a 45 no_dash h); no_block_comment = λ h. absurd (eqb-false a 47 no_slash h) })
      ]
    ]

front : (at a : ℕ) (more : List ℕ) → HasFront at (a ∷ more)
front at a more =
    elim (cases_Bool (is_white a)) [
      | inl white ↦ inl (record { kind = None; length = 1 }, takes_white (a ∷ more) more a refl white)
      | inr no_white ↦ elim (cases_Bool (is_word_start a)) [
        | inl word ↦ inl (record { kind = Some kinds.Word; length = 1 + prefix_len is_word_part more }, takes_word (a ∷ more) more a (prefix_len is_word_part more) refl word refl)
        | inr no_word ↦ elim (cases_Bool (is_ascii_digit a)) [
          | inl digit ↦ inl (record { kind = Some kinds.Number; length = 1 + prefix_len is_ascii_digit more }, takes_number (a ∷ more) more a (prefix_len is_ascii_digit more) refl digit refl)
          | inr no_number ↦ elim (cases_Bool (a == 39)) [
            | inl quote ↦ subst (λ (x : ℕ). HasFront at (x ∷ more)) (sym (eqb-true a 39 quote)) (quote_front at more)
            | inr no_quote ↦ rest_front at a more no_white no_word no_number (eqb-false a 39 no_quote)
          ]
        ]
      ]
    ]

-- ---- whole texts

-- the tokens of a text, or its first fault
abbrev pub Answer : List ℕ → Type 0
Answer text = ((tokens : List Token) × HasTokens text tokens) ⊎ ((fault : LexFault) × HasFault text fault)

answer_from : (n : ℕ) (text rest : List ℕ) (at : ℕ) (tokens : List Token) → length rest ≤ n → HasRead text rest at tokens → Answer text
answer_from n text [] at tokens short so_far = inl (tokens, at_end text [] at tokens so_far refl)
answer_from zero text (a ∷ more) at tokens short so_far = absurd (omega arith)
answer_from (suc n) text (a ∷ more) at tokens short so_far =
    elim (front at a more) [
      | inl taken ↦ answer_from n text (drop taken.0.length (a ∷ more)) (at + taken.0.length) (tokens ++ with_token taken.0.kind at (at + taken.0.length) []) (omega (arith, length-drop taken.0.length (a ∷ more), takes_some (a ∷ more) taken.0 taken.1)) (one_more text (a ∷ more) at tokens taken.0 so_far taken.1)
      | inr fault ↦ inr (fault.0, at_fault text (a ∷ more) at tokens fault.0 so_far fault.1)
    ]

pub answer : (text : List ℕ) → Answer text
answer text = answer_from (length text) text text 0 [] (omega arith) (at_start text)
