-- What stands at the front of a text, from what the parts of the lexer find there.
use Rattle.std.proofs.Common.{◌≡◌, ℕ, ◌+◌, ◌<◌, ◌≤◌, Bool, true, false, ◌&&◌, ◌==◌, List, [], ◌∷◌, ◌++◌, length, get_or, take, Some, None, refl, sym, ap, subst, ◌∙◌, append_assoc, arith, inl, inr, codes}
use Rattle.std.specs.List.{list_all, prefix_len}
use Rattle.std.specs.Char.{is_ascii_digit}
use Rattle.std.proofs.lemmas.Bool.{cases_Bool, and_from, and_right, or_from, eqb-true}
use Rattle.std.proofs.lemmas.List.{length-append, get_or_at, take_at, append-nil, nil_from_length}
use Rattle.tt_lex.specs.declared.scan.Inside.{Inside}
use Rattle.tt_lex.specs.declared.TokenKind.TheVariants as kinds
use Rattle.tt_lex.specs.Lexis.{Piece, Blank, LineComment, BlockComment, Word, Number, Quoted, Sign, is_white, is_word_start, is_word_part, is_line_byte, is_text_byte, is_sign, is_quote, doubled, spelling, NotClosed, StopsAt, IsPiece, EndsBefore, RefusesInText, IsQuotedAt}
use Rattle.tt_lex.specs.Scanning.{Takes, Closes, BeginsNoOther}

-- ---- the longest front whose bytes pass a test

pub record IsRun (test : ℕ → Bool) (bytes : List ℕ) : Type 0 where
  pub front : List ℕ
  pub behind : List ℕ
  pub parts : bytes ≡ front ++ behind
  pub passes : list_all test front ≡ true
  pub stops : StopsAt test behind
  pub length_is : prefix_len test bytes ≡ length front

pub run : (test : ℕ → Bool) (bytes : List ℕ) → IsRun test bytes
run test [] = record { front = []; behind = []; parts = refl; passes = refl; stops = tt; length_is = refl }
run test (b ∷ bytes) =
    let r = run test bytes in
    elim (cases_Bool (test b)) [
      | inl passed ↦ record { front = b ∷ r.front; behind = r.behind; parts = ap (λ (xs : List ℕ). b ∷ xs) r.parts; passes = and_from (test b) (list_all test r.front) passed r.passes; stops = r.stops; length_is = rw passed (omega (arith, r.length_is)) }
      | inr failed ↦ record { front = []; behind = b ∷ bytes; parts = refl; passes = refl; stops = failed; length_is = rw failed refl }
    ]

pub passes_whole : (test : ℕ → Bool) (bytes : List ℕ) → prefix_len test bytes ≡ length bytes → list_all test bytes ≡ true
passes_whole test bytes e =
    let r = run test bytes in
    let nothing : r.behind ≡ [] = nil_from_length r.behind (omega (arith, r.length_is, ap length r.parts, length-append r.front r.behind)) in
    let whole : bytes ≡ r.front = r.parts ∙ ap (λ (xs : List ℕ). r.front ++ xs) nothing ∙ append-nil r.front in
    rw whole r.passes

-- ---- pieces

-- a piece has at least one byte
pub spelling_some : (piece : Piece) → IsPiece piece → 0 < length (spelling piece)
spelling_some (Blank b) right = omega arith
spelling_some (LineComment body) right = omega arith
spelling_some (BlockComment body) right = omega arith
spelling_some (Word []) right = absurd right
spelling_some (Word (b ∷ bytes)) right = omega arith
spelling_some (Number []) right = absurd right
spelling_some (Number (b ∷ bytes)) right = omega arith
spelling_some (Quoted text) right = omega arith
spelling_some (Sign []) right = absurd cc
spelling_some (Sign (b ∷ bytes)) right = omega arith

pub takes_white : (rest more : List ℕ) (b : ℕ) → rest ≡ b ∷ more → is_white b ≡ true → Takes rest (record { kind = None; length = 1 })
takes_white rest more b e white = record { piece = Blank b; behind = more; parts = e; right = white; ends = tt; kind_is = refl; length_is = refl }

pub takes_word : (rest more : List ℕ) (b n : ℕ) → rest ≡ b ∷ more → is_word_start b ≡ true → n ≡ prefix_len is_word_part more → Takes rest (record { kind = Some kinds.Word; length = 1 + n })
takes_word rest more b n e start run_is =
    let r = run is_word_part more in
    record { piece = Word (b ∷ r.front); behind = r.behind; parts = e ∙ ap (λ (xs : List ℕ). b ∷ xs) r.parts; right = (start, r.passes); ends = r.stops; kind_is = refl; length_is = omega (arith, r.length_is, run_is) }

pub takes_number : (rest more : List ℕ) (b n : ℕ) → rest ≡ b ∷ more → is_ascii_digit b ≡ true → n ≡ prefix_len is_ascii_digit more → Takes rest (record { kind = Some kinds.Number; length = 1 + n })
takes_number rest more b n e start run_is =
    let r = run is_ascii_digit more in
    record { piece = Number (b ∷ r.front); behind = r.behind; parts = e ∙ ap (λ (xs : List ℕ). b ∷ xs) r.parts; right = (start, r.passes); ends = r.stops; kind_is = refl; length_is = omega (arith, r.length_is, run_is) }

pub takes_line : (rest more body : List ℕ) (b n : ℕ) → rest ≡ b ∷ more → b ≡ 45 → more ≡ 45 ∷ body → n ≡ prefix_len is_line_byte body → Takes rest (record { kind = None; length = 2 + n })
takes_line rest more body b n e dash dashes run_is =
    let r = run is_line_byte body in
    let behind_dashes = r.parts in
    let whole : rest ≡ 45 ∷ 45 ∷ (r.front ++ r.behind) = cc in
    record { piece = LineComment r.front; behind = r.behind; parts = whole; right = r.passes; ends = r.stops; kind_is = refl; length_is = omega (arith, r.length_is, run_is) }

pub takes_block : (rest body behind : List ℕ) (n : ℕ) → rest ≡ body ++ (codes "*/" ++ behind) → NotClosed body → n ≡ length body → Takes (codes "/*" ++ rest) (record { kind = None; length = n + 4 })
takes_block rest body behind n e unclosed long =
    let whole : codes "/*" ++ rest ≡ spelling (BlockComment body) ++ behind = ap (λ (xs : List ℕ). codes "/*" ++ xs) (e ∙ sym (append_assoc body (codes "*/") behind)) in
    record { piece = BlockComment body; behind = behind; parts = whole; right = unclosed; ends = tt; kind_is = refl; length_is = omega (arith, long, length-append body (codes "*/")) }

-- ---- signs

three_no_sign : (a b : ℕ) (more : List ℕ) → EndsBefore (Sign (a ∷ b ∷ [])) more
three_no_sign a b [] = tt
three_no_sign a b (c ∷ more) = and_right (a == 45) _ (and_right (b == 45) _ refl)

pub takes_long : (more behind : List ℕ) (a b : ℕ) → more ≡ b ∷ behind → is_sign (a ∷ b ∷ []) ≡ true → Takes (a ∷ more) (record { kind = Some kinds.Sign; length = 2 })
takes_long more behind a b e sign =
    record { piece = Sign (a ∷ b ∷ []); behind = behind; parts = ap (λ (xs : List ℕ). a ∷ xs) e; right = sign; ends = three_no_sign a b behind; kind_is = refl; length_is = refl }

two_no_sign : (a : ℕ) (more : List ℕ) → StopsAt (λ b. is_sign (a ∷ b ∷ [])) more → BeginsNoOther a more → EndsBefore (Sign (a ∷ [])) more
two_no_sign a [] stopped other = tt
two_no_sign a (b ∷ more) stopped other =
    elim (cases_Bool (a == 45)) [
      | inl dash ↦ or_from _ _ stopped (and_right (a == 45) _ (rw (other.no_line_comment (eqb-true a 45 dash)) refl))
      | inr no_dash ↦ or_from _ _ stopped (rw no_dash refl)
    ]

pub takes_short : (a : ℕ) (more : List ℕ) → StopsAt (λ b. is_sign (a ∷ b ∷ [])) more → BeginsNoOther a more → is_sign (a ∷ []) ≡ true → Takes (a ∷ more) (record { kind = Some kinds.Sign; length = 1 })
takes_short a more stopped other sign =
    record { piece = Sign (a ∷ []); behind = more; parts = refl; right = sign; ends = two_no_sign a more stopped other; kind_is = refl; length_is = refl }

-- ---- quoted texts

-- the bytes of a text pass exactly where those of its spelling do
twice : (x y : Bool) → (x && (x && y)) ≡ (x && y)
twice true y = refl
twice false y = refl

pub passes-doubled : (test : ℕ → Bool) (text : List ℕ) → list_all test (doubled text) ≡ list_all test text
passes-doubled test [] = refl
passes-doubled test (b ∷ text) = elim (cases_Bool (is_quote b)) [
  | inl quote ↦ rw (quote, passes-doubled test text) (twice (test b) (list_all test text))
  | inr other ↦ rw (other, passes-doubled test text) refl
]

-- the text that is taken
pub inside_is : (rest : List ℕ) (inside : Inside) (found : Closes rest inside) → take inside.written rest ≡ doubled found.text
inside_is rest inside found = ap (take inside.written) found.parts ∙ take_at (doubled found.text) (39 ∷ found.behind) inside.written (sym found.written_is)

pub quoted_at : (rest : List ℕ) (inside : Inside) (found : Closes rest inside) → IsQuotedAt (39 ∷ rest) found.text
quoted_at rest inside found = record { behind = found.behind; parts = ap (λ (xs : List ℕ). 39 ∷ xs) (found.parts ∙ sym (append_assoc (doubled found.text) (39 ∷ []) found.behind)); ends = found.ends }

pub takes_text : (rest : List ℕ) (inside : Inside) (n : ℕ) → Closes rest inside → inside.meant ≤ 65535 → n ≡ prefix_len is_text_byte (take inside.written rest) → n ≡ length (take inside.written rest) → Takes (39 ∷ rest) (record { kind = Some kinds.Quoted; length = inside.written + 2 })
takes_text rest inside n found short run_is whole =
    let text_is = inside_is rest inside found in
    let passes : list_all is_text_byte (doubled found.text) ≡ true = subst (λ (xs : List ℕ). list_all is_text_byte xs ≡ true) text_is (passes_whole is_text_byte (take inside.written rest) (sym run_is ∙ whole)) in
    record {
      piece = Quoted found.text;
      behind = found.behind;
      parts = ap (λ (xs : List ℕ). 39 ∷ xs) (found.parts ∙ sym (append_assoc (doubled found.text) (39 ∷ []) found.behind));
      right = (sym (passes-doubled is_text_byte found.text) ∙ passes, omega (arith, found.meant_is));
      ends = found.ends;
      kind_is = refl;
      length_is = omega (arith, found.written_is, length-append (doubled found.text) (39 ∷ []));
    }

-- the first byte that does not pass
pub first_failed : (test : ℕ → Bool) (bytes : List ℕ) (n : ℕ) → n ≡ prefix_len test bytes → n < length bytes → (before : List ℕ) × (after : List ℕ) × (bytes ≡ before ++ get_or bytes n 0 ∷ after) × (list_all test before ≡ true) × (test (get_or bytes n 0) ≡ false) × (length before ≡ n)
first_failed test bytes n run_is within =
    let r = run test bytes in
    go test bytes r.front r.behind n r.parts r.passes r.stops (omega (arith, run_is, r.length_is)) within
  where
    go : (test : ℕ → Bool) (bytes front behind : List ℕ) (n : ℕ) → bytes ≡ front ++ behind → list_all test front ≡ true → StopsAt test behind → n ≡ length front → n < length bytes → (before : List ℕ) × (after : List ℕ) × (bytes ≡ before ++ get_or bytes n 0 ∷ after) × (list_all test before ≡ true) × (test (get_or bytes n 0) ≡ false) × (length before ≡ n)
    go test bytes front [] n parts passes stops n_is within = absurd (omega (arith, ap length parts, length-append front []))
    go test bytes front (b ∷ behind) n parts passes stops n_is within =
        let here : get_or bytes n 0 ≡ b = ap (λ (xs : List ℕ). get_or xs n 0) parts ∙ get_or_at front b behind 0 n (sym n_is) in
        (front, behind, parts ∙ ap (λ (c : ℕ). front ++ c ∷ behind) (sym here), passes, ap test here ∙ stops, sym n_is)

pub refuses : (rest : List ℕ) (inside : Inside) (n : ℕ) → Closes rest inside → inside.meant ≤ 65535 → n ≡ prefix_len is_text_byte (take inside.written rest) → n < length (take inside.written rest) → (before : List ℕ) × RefusesInText (39 ∷ rest) before (get_or (take inside.written rest) n 0) × (length before ≡ 1 + n)
refuses rest inside n found short run_is within =
    let f = first_failed is_text_byte (take inside.written rest) n run_is within in (
      39 ∷ f.0,
      record {
        text = found.text;
        quoted = quoted_at rest inside found;
        short = omega (arith, found.meant_is);
        after = f.1;
        parts = ap (λ (xs : List ℕ). 39 ∷ xs) (sym (inside_is rest inside found) ∙ f.2);
        allowed = f.3;
        not_allowed = f.4;
      },
      omega (arith, f.5),
    )
