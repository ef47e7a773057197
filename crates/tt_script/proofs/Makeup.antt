-- A body is made up of pieces, and they say of each byte what it is.
use Rattle.std.proofs.Common.{◌≡◌, ◌≢◌, ℕ, zero, suc, ◌+◌, ◌≤◌, ◌⊎◌, Bool, true, false, cond, ◌&&◌, ◌||◌, not, eqb, List, [], ◌∷◌, ◌++◌, length, get_or, replicate, codes, refl, sym, ap, subst, ◌∙◌, append_assoc, arith, inl, inr}
use Rattle.std.specs.List.{list_all}
use Rattle.std.proofs.lemmas.Bool.{cases_Bool, and_parts, eqb-true, eqb-false, ne_eqb}
use Rattle.std.proofs.lemmas.Bool.Decides.{nat_tests}
use Rattle.std.proofs.lemmas.List.{append-nil, length-append}
use Rattle.tt_script.specs.declared.cut.ByteKind.{ByteKind}
use Rattle.tt_script.specs.declared.cut.ByteKind.TheVariants.{Gap, Solid}
use Rattle.tt_script.specs.declared.cut.Inside.{Inside}
use Rattle.tt_script.specs.declared.cut.Inside.TheVariants as insides
use Rattle.tt_script.specs.Bytes.{is_white, is_line_byte, is_no_quote}
use Rattle.tt_script.specs.Body.{begins_comment, kind_at, inside_after, kinds_in}
use Rattle.tt_script.specs.Pieces.{Piece, White, LineComment, BlockComment, OpenComment, Quoted, OpenText, Semicolon, Other, spelling, NotClosed, IsPiece, EndsBefore, spelled, ArePieces, kind_of, kinds_of}

-- ---- the kinds of a piece's bytes

append_many : {X : Type 0} (n : ℕ) (x : X) (xs : List X) → replicate n x ++ (x ∷ xs) ≡ x ∷ (replicate n x ++ xs)
append_many zero x xs = refl
append_many (suc n) x xs = ap (λ l. x ∷ l) (append_many n x xs)

white_kind : (byte next : ℕ) → is_white byte ≡ true → (kind_at insides.Nothing byte next ≡ Gap) × (inside_after insides.Nothing byte next ≡ insides.Nothing)
white_kind byte next white =
    let a : eqb byte 59 ≡ false = grind (arith, nat_tests) in
    let b : eqb byte 39 ≡ false = grind (arith, nat_tests) in
    let c : eqb byte 45 ≡ false = grind (arith, nat_tests) in
    let d : eqb byte 47 ≡ false = grind (arith, nat_tests) in
    (rw (a, white) refl, rw (b, c, d) refl)

-- a line comment's bytes, and what stands behind it
line_run : (body rest : List ℕ) → list_all is_line_byte body ≡ true → kinds_in insides.LineComment (body ++ rest) ≡ replicate (length body) Gap ++ kinds_in insides.LineComment rest
line_run [] rest all = refl
line_run (byte ∷ body) rest all =
    let p = and_parts (is_line_byte byte) (list_all is_line_byte body) all in
    let a : eqb byte 10 ≡ false = not_true (eqb byte 10) p.0 in
    rw a (ap (λ l. Gap ∷ l) (line_run body rest p.1))
  where
    not_true : (b : Bool) → not b ≡ true → b ≡ false
    not_true true h = absurd cc
    not_true false h = refl

line_end : (body rest : List ℕ) → EndsBefore (LineComment body) rest → kinds_in insides.LineComment rest ≡ kinds_in insides.Nothing rest
line_end body [] ends = refl
line_end body (byte ∷ rest) ends = rw ends refl

text_run : (text rest : List ℕ) → list_all is_no_quote text ≡ true → kinds_in insides.QuotedText (text ++ rest) ≡ replicate (length text) Solid ++ kinds_in insides.QuotedText rest
text_run [] rest all = refl
text_run (byte ∷ text) rest all =
    let p = and_parts (is_no_quote byte) (list_all is_no_quote text) all in
    let a : eqb byte 39 ≡ false = not_true (eqb byte 39) p.0 in
    rw a (ap (λ l. Solid ∷ l) (text_run text rest p.1))
  where
    not_true : (b : Bool) → not b ≡ true → b ≡ false
    not_true true h = absurd cc
    not_true false h = refl

abbrev in_block : Bool → Inside
in_block star = cond star insides.Star insides.BlockComment

not_closed_tail : (byte : ℕ) (body : List ℕ) → NotClosed (byte ∷ body) → NotClosed body
not_closed_tail byte body unclosed = λ k star. (let e : suc k + 1 ≡ suc (k + 1) = omega arith in subst (λ (n : ℕ). get_or (byte ∷ body) n 0 ≢ 47) e (unclosed (suc k) star))

-- a comment's bytes, behind a star or not; no slash stands behind a star
block_run : (star : Bool) (body rest : List ℕ) (kinds : List ByteKind) → NotClosed body → (star ≡ true → get_or body 0 0 ≢ 47) → kinds_in insides.BlockComment rest ≡ kinds → kinds_in insides.Star rest ≡ kinds
    → kinds_in (in_block star) (body ++ rest) ≡ replicate (length body) Gap ++ kinds
block_run true [] rest kinds unclosed slash a b = b
block_run false [] rest kinds unclosed slash a b = a
block_run true (byte ∷ body) rest kinds unclosed slash a b =
    let c : eqb byte 47 ≡ false = ne_eqb byte 47 (slash refl) in
    let more = λ (s : Bool) (h : s ≡ true → get_or body 0 0 ≢ 47). block_run s body rest kinds (not_closed_tail byte body unclosed) h a b in
    elim (cases_Bool (eqb byte 42)) [
      | inl star ↦ rw (c, star) (ap (λ l. Gap ∷ l) (more true (λ _. unclosed 0 (eqb-true byte 42 star))))
      | inr other ↦ rw (c, other) (ap (λ l. Gap ∷ l) (more false (λ h. absurd cc)))
    ]
block_run false (byte ∷ body) rest kinds unclosed slash a b =
    let more = λ (s : Bool) (h : s ≡ true → get_or body 0 0 ≢ 47). block_run s body rest kinds (not_closed_tail byte body unclosed) h a b in
    elim (cases_Bool (eqb byte 42)) [
      | inl star ↦ rw star (ap (λ l. Gap ∷ l) (more true (λ _. unclosed 0 (eqb-true byte 42 star))))
      | inr other ↦ rw other (ap (λ l. Gap ∷ l) (more false (λ h. absurd cc)))
    ]

other_kind : (byte next : ℕ) → is_white byte ≡ false → byte ≢ 39 → byte ≢ 59 → begins_comment byte next ≡ false → (kind_at insides.Nothing byte next ≡ Solid) × (inside_after insides.Nothing byte next ≡ insides.Nothing)
other_kind byte next white quote semicolon comment =
    let a = ne_eqb byte 59 semicolon in
    let b = ne_eqb byte 39 quote in
    let p = neither (eqb byte 45 && eqb next 45) (eqb byte 47 && eqb next 42) comment in
    (rw (a, white, comment) refl, rw (b, p.0, p.1) refl)
  where
    neither : (x y : Bool) → (x || y) ≡ false → (x ≡ false) × (y ≡ false)
    neither true y h = absurd cc
    neither false y h = (refl, h)

-- what may stand behind another byte begins no comment with it
no_comment : (byte : ℕ) (rest : List ℕ) → EndsBefore (Other byte) rest → begins_comment byte (get_or rest 0 0) ≡ false
no_comment byte [] ends = by (eqb byte 45) (eqb byte 47)
  where
    by : (x y : Bool) → ((x && false) || (y && false)) ≡ false
    by true true = refl
    by true false = refl
    by false true = refl
    by false false = refl
no_comment byte (next ∷ rest) ends = ends

abbrev Kinds : Piece → List ℕ → Type 0
Kinds piece rest = kinds_in insides.Nothing (spelling piece ++ rest) ≡ replicate (length (spelling piece)) (kind_of piece) ++ kinds_in insides.Nothing rest

two_more : (n m : ℕ) (kinds : List ByteKind) → m ≡ n + 2 → replicate n Gap ++ (Gap ∷ Gap ∷ kinds) ≡ replicate m Gap ++ kinds
two_more n m kinds e =
    let f : m ≡ suc (suc n) = omega arith in
    append_many n Gap (Gap ∷ kinds) ∙ ap (λ l. Gap ∷ l) (append_many n Gap kinds) ∙ ap (λ (k : ℕ). replicate k Gap ++ kinds) (sym f)

one_more : (n m : ℕ) (kinds : List ByteKind) → m ≡ n + 1 → replicate n Solid ++ (Solid ∷ kinds) ≡ replicate m Solid ++ kinds
one_more n m kinds e =
    let f : m ≡ suc n = omega arith in
    append_many n Solid kinds ∙ ap (λ (k : ℕ). replicate k Solid ++ kinds) (sym f)

piece_kinds : (piece : Piece) (rest : List ℕ) → IsPiece piece → EndsBefore piece rest → Kinds piece rest
piece_kinds (White byte) rest right ends = let w = white_kind byte (get_or rest 0 0) right in rw (w.0, w.1) refl
piece_kinds (LineComment body) rest right ends =
    ap (λ l. Gap ∷ Gap ∷ l) (line_run body rest right ∙ ap (λ l. replicate (length body) Gap ++ l) (line_end body rest ends))
piece_kinds (BlockComment body) rest right ends =
    let kinds = kinds_in insides.Nothing rest in
    ap (λ l. Gap ∷ Gap ∷ l) (ap (kinds_in insides.BlockComment) (append_assoc body (codes "*/") rest)
    ∙ block_run false body (codes "*/" ++ rest) (Gap ∷ Gap ∷ kinds) right (λ h. absurd cc) refl refl
    ∙ two_more (length body) (length (body ++ codes "*/")) kinds (length-append body (codes "*/")))
piece_kinds (OpenComment body) rest right ends =
    rw ends (ap (λ l. Gap ∷ Gap ∷ l) (block_run false body [] [] right (λ h. absurd cc) refl refl))
piece_kinds (Quoted text) rest right ends =
    let kinds = kinds_in insides.Nothing rest in
    ap (λ l. Solid ∷ l) (ap (kinds_in insides.QuotedText) (append_assoc text (39 ∷ []) rest)
    ∙ text_run text (39 ∷ rest) right
    ∙ one_more (length text) (length (text ++ 39 ∷ [])) kinds (length-append text (39 ∷ [])))
piece_kinds (OpenText text) rest right ends =
    rw ends (ap (λ l. Solid ∷ l) (text_run text [] right))
piece_kinds Semicolon rest right ends = refl
piece_kinds (Other byte) rest right ends = let o = other_kind byte (get_or rest 0 0) right.0 right.1 right.2 (no_comment byte rest ends) in rw (o.0, o.1) refl

pub pieces_kinds : (pieces : List Piece) → ArePieces pieces → kinds_in insides.Nothing (spelled pieces) ≡ kinds_of pieces
pieces_kinds [] each = refl
pieces_kinds (piece ∷ pieces) each =
    piece_kinds piece (spelled pieces) each.0 each.1 ∙ ap (λ l. replicate (length (spelling piece)) (kind_of piece) ++ l) (pieces_kinds pieces each.2)

-- ---- each body is made up of pieces

pub record Made (body : List ℕ) : Type 0 where
  pub pieces : List Piece
  pub whole : body ≡ spelled pieces
  pub each : ArePieces pieces

-- a piece in front
with_piece : (piece : Piece) (rest : List ℕ) → IsPiece piece → EndsBefore piece rest → Made rest → Made (spelling piece ++ rest)
with_piece piece rest right ends made = record {
  pieces = piece ∷ made.pieces;
  whole = ap (λ (l : List ℕ). spelling piece ++ l) made.whole;
  each = (right, subst (EndsBefore piece) made.whole ends, made.each);
}

-- the bytes that pass a test, and those behind them
record Front (test : ℕ → Bool) (bytes : List ℕ) : Type 0 where
  front : List ℕ
  behind : List ℕ
  whole : bytes ≡ front ++ behind
  passes : list_all test front ≡ true
  stops : (behind ≡ []) ⊎ ((byte : ℕ) × (rest : List ℕ) × (behind ≡ byte ∷ rest) × (test byte ≡ false))

front_of : (test : ℕ → Bool) (bytes : List ℕ) → Front test bytes
front_of test [] = record { front = []; behind = []; whole = refl; passes = refl; stops = inl refl }
front_of test (byte ∷ bytes) =
    let more = front_of test bytes in
    elim (cases_Bool (test byte)) [
      | inl passes ↦ record { front = byte ∷ more.front; behind = more.behind; whole = ap (λ l. byte ∷ l) more.whole; passes = rw (passes, more.passes) refl; stops = more.stops }
      | inr fails ↦ record { front = []; behind = byte ∷ bytes; whole = refl; passes = refl; stops = inr (byte, bytes, refl, fails) }
    ]

-- the bytes in front of the first `*/`
record Closed (bytes : List ℕ) : Type 0 where
  front : List ℕ
  behind : List ℕ
  whole : bytes ≡ front ++ (42 ∷ 47 ∷ behind)
  unclosed : NotClosed front

nothing_open : NotClosed []
nothing_open = λ k star. absurd cc

one_open : (byte : ℕ) → NotClosed (byte ∷ [])
one_open byte = by
  where
    by : (k : ℕ) → get_or (byte ∷ []) k 0 ≡ 42 → get_or (byte ∷ []) (k + 1) 0 ≢ 47
    by zero star = λ h. absurd cc
    by (suc k) star = absurd cc

longer : (byte : ℕ) (bytes : List ℕ) → NotClosed bytes → (byte ≡ 42 → get_or bytes 0 0 ≢ 47) → NotClosed (byte ∷ bytes)
longer byte bytes unclosed next = by
  where
    by : (k : ℕ) → get_or (byte ∷ bytes) k 0 ≡ 42 → get_or (byte ∷ bytes) (k + 1) 0 ≢ 47
    by zero star = next star
    by (suc k) star = (let e : suc (k + 1) ≡ suc k + 1 = omega arith in subst (λ (n : ℕ). get_or (byte ∷ bytes) n 0 ≢ 47) e (unclosed k star))

-- the first byte of the front, if it has one, is the first byte
front_next : (bytes front behind : List ℕ) → bytes ≡ front ++ (42 ∷ 47 ∷ behind) → get_or bytes 0 0 ≢ 47 → get_or front 0 0 ≢ 47
front_next bytes [] behind e next = λ h. absurd cc
front_next bytes (byte ∷ front) behind e next = λ h. next (ap (λ (l : List ℕ). get_or l 0 0) e ∙ h)

abbrev IsClose : List ℕ → Type 0
IsClose bytes = Closed bytes ⊎ NotClosed bytes

close_longer : (byte : ℕ) (bytes : List ℕ) → (byte ≡ 42 → get_or bytes 0 0 ≢ 47) → IsClose bytes → IsClose (byte ∷ bytes)
close_longer byte bytes next (inl closed) = inl (record {
  front = byte ∷ closed.front;
  behind = closed.behind;
  whole = ap (λ l. byte ∷ l) closed.whole;
  unclosed = longer byte closed.front closed.unclosed (λ star. front_next bytes closed.front closed.behind closed.whole (next star));
})
close_longer byte bytes next (inr unclosed) = inr (longer byte bytes unclosed next)

close_here : (byte next : ℕ) (bytes : List ℕ) → byte ≡ 42 → next ≡ 47 → IsClose (byte ∷ next ∷ bytes)
close_here byte next bytes star slash = rw (star, slash) (inl (record { front = []; behind = bytes; whole = refl; unclosed = nothing_open }))

close_of : (bytes : List ℕ) → IsClose bytes
close_of [] = inr nothing_open
close_of (byte ∷ []) = inr (one_open byte)
close_of (byte ∷ next ∷ bytes) =
    let more = close_of (next ∷ bytes) in
    elim (cases_Bool (eqb byte 42)) [
      | inl star ↦ elim (cases_Bool (eqb next 47)) [
        | inl slash ↦ close_here byte next bytes (eqb-true byte 42 star) (eqb-true next 47 slash)
        | inr other ↦ close_longer byte (next ∷ bytes) (λ _. eqb-false next 47 other) more
      ]
      | inr other ↦ close_longer byte (next ∷ bytes) (λ h. absurd (eqb-false byte 42 other h)) more
    ]

abbrev Makes : ℕ → Type 0
Makes size = (body : List ℕ) → length body ≤ size → Made body

feed_of : (byte : ℕ) → is_line_byte byte ≡ false → byte ≡ 10
feed_of byte h = grind (arith, nat_tests)

quote_of : (byte : ℕ) → is_no_quote byte ≡ false → byte ≡ 39
quote_of byte h = grind (arith, nat_tests)

made_line : (size : ℕ) (rest : List ℕ) → Makes size → length rest ≤ size → Made (45 ∷ 45 ∷ rest)
made_line size rest make few =
    let f = front_of is_line_byte rest in
    let behind = make f.behind (omega (arith, few, ap length f.whole, length-append f.front f.behind)) in
    rw f.whole (with_piece (LineComment f.front) f.behind f.passes (ends f) behind)
  where
    ends : (f : Front is_line_byte rest) → EndsBefore (LineComment f.front) f.behind
    ends f = elim f.stops [
      | inl none ↦ rw none tt
      | inr some ↦ rw some.2 (feed_of some.0 some.3)
    ]

made_block : (size : ℕ) (rest : List ℕ) → Makes size → length rest ≤ size → Made (47 ∷ 42 ∷ rest)
made_block size rest make few = elim (close_of rest) [
  | inl c ↦ (let behind = make c.behind (omega (arith, few, ap length c.whole, length-append c.front (42 ∷ 47 ∷ c.behind))) in
      let e : spelling (BlockComment c.front) ++ c.behind ≡ 47 ∷ 42 ∷ rest = ap (λ l. 47 ∷ 42 ∷ l) (append_assoc c.front (codes "*/") c.behind ∙ sym c.whole) in
      subst Made e (with_piece (BlockComment c.front) c.behind c.unclosed tt behind))
  | inr unclosed ↦ (let e : spelling (OpenComment rest) ++ [] ≡ 47 ∷ 42 ∷ rest = append-nil (47 ∷ 42 ∷ rest) in
      subst Made e (with_piece (OpenComment rest) [] unclosed refl (make [] (omega arith))))
]

made_text : (size : ℕ) (rest : List ℕ) → Makes size → length rest ≤ size → Made (39 ∷ rest)
made_text size rest make few = by (front_of is_no_quote rest)
  where
    by : Front is_no_quote rest → Made (39 ∷ rest)
    by f = elim f.stops [
      | inl none ↦ (let e : spelling (OpenText f.front) ++ [] ≡ 39 ∷ rest = append-nil (39 ∷ f.front) ∙ ap (λ l. 39 ∷ l) (sym (append-nil f.front) ∙ ap (λ (l : List ℕ). f.front ++ l) (sym none) ∙ sym f.whole) in
          subst Made e (with_piece (OpenText f.front) [] f.passes refl (make [] (omega arith))))
      | inr some ↦ (let behind : f.behind ≡ 39 ∷ some.1 = some.2 ∙ ap (λ (b : ℕ). b ∷ some.1) (quote_of some.0 some.3) in
          let more = make some.1 (omega (arith, few, ap length f.whole, length-append f.front f.behind, ap length behind)) in
          let e : spelling (Quoted f.front) ++ some.1 ≡ 39 ∷ rest = ap (λ l. 39 ∷ l) (append_assoc f.front (39 ∷ []) some.1 ∙ ap (λ (l : List ℕ). f.front ++ l) (sym behind) ∙ sym f.whole) in
          subst Made e (with_piece (Quoted f.front) some.1 f.passes tt more))
    ]

made_other : (byte : ℕ) (rest : List ℕ) → is_white byte ≡ false → byte ≢ 39 → byte ≢ 59 → EndsBefore (Other byte) rest → Made rest → Made (byte ∷ rest)
made_other byte rest white quote semicolon ends made = with_piece (Other byte) rest (white, quote, semicolon) ends made

-- a byte that may begin a comment with the next one
made_pair : (size byte next : ℕ) (rest : List ℕ) → Makes size → length (next ∷ rest) ≤ size → is_white byte ≡ false → byte ≢ 39 → byte ≢ 59 → Made (byte ∷ next ∷ rest)
made_pair size byte next rest make few white quote semicolon =
    elim (cases_Bool (eqb byte 45 && eqb next 45)) [
      | inl dash ↦ (let p = and_parts (eqb byte 45) (eqb next 45) dash in rw (eqb-true byte 45 p.0, eqb-true next 45 p.1) (made_line size rest make (omega arith)))
      | inr no_dash ↦ elim (cases_Bool (eqb byte 47 && eqb next 42)) [
        | inl slash ↦ (let p = and_parts (eqb byte 47) (eqb next 42) slash in rw (eqb-true byte 47 p.0, eqb-true next 42 p.1) (made_block size rest make (omega arith)))
        | inr no_slash ↦ made_other byte (next ∷ rest) white quote semicolon (rw (no_dash, no_slash) refl) (make (next ∷ rest) few)
      ]
    ]

made_solid : (size byte : ℕ) (rest : List ℕ) → Makes size → length rest ≤ size → is_white byte ≡ false → byte ≢ 39 → byte ≢ 59 → Made (byte ∷ rest)
made_solid size byte [] make few white quote semicolon = made_other byte [] white quote semicolon tt (make [] few)
made_solid size byte (next ∷ rest) make few white quote semicolon = made_pair size byte next rest make few white quote semicolon

made_byte : (size byte : ℕ) (rest : List ℕ) → Makes size → length rest ≤ size → Made (byte ∷ rest)
made_byte size byte rest make few =
    elim (cases_Bool (is_white byte)) [
      | inl white ↦ with_piece (White byte) rest white tt (make rest few)
      | inr no_white ↦ elim (cases_Bool (eqb byte 39)) [
        | inl quote ↦ rw (eqb-true byte 39 quote) (made_text size rest make few)
        | inr no_quote ↦ elim (cases_Bool (eqb byte 59)) [
          | inl semicolon ↦ rw (eqb-true byte 59 semicolon) (with_piece Semicolon rest tt tt (make rest few))
          | inr other ↦ made_solid size byte rest make few no_white (eqb-false byte 39 no_quote) (eqb-false byte 59 other)
        ]
      ]
    ]

made_up : (size : ℕ) (body : List ℕ) → length body ≤ size → Made body
made_up size [] few = record { pieces = []; whole = refl; each = tt }
made_up zero (byte ∷ rest) few = absurd (omega arith)
made_up (suc size) (byte ∷ rest) few = made_byte size byte rest (λ body small. made_up size body small) (omega arith)

pub made_of : (body : List ℕ) → Made body
made_of body = made_up (length body) body (omega arith)
