use Rattle.std.proofs.Common.{◌≡◌, ◌≢◌, ◌≤◌, ◌<◌, ◌^◌, ℕ, List, Some, None, ap, sym, subst, ◌∙◌, decimal, length, get_or, arith}
use Rattle.std.specs.Prelude.{slice_get}
use Rattle.std.proofs.lemmas.Fmt.{IsAscii-decimal, decimal_nonempty}
use Rattle.std.proofs.lemmas.Option.{get_or_from_slice_get, slice_get_within, slice_get-get_or}
use Rattle.std.proofs.lemmas.Str.{IsUtf8-from_ascii}
use Rattle.std.specs.Str.{IsUtf8}
use Rattle.tt_travel.proofs.Numbers.{decimal_begins, told_number}
use Rattle.tt_travel.proofs.statements.number_of.Goals as goal
use Rattle.tt_travel.proofs.statements.number_of.Goals.{then-first-eq48-via-then-first-eq48, then-first-eq48-via-else-first-eq48+then-first-eq43}

nothing : (ds : List ℕ) → None ≡ slice_get ds 0 → (n : ℕ) → n < 2 ^ 64 → decimal n ≢ ds
nothing ds e n small same =
    let some : 0 < length ds = omega (arith, decimal_nonempty n small, ap length same) in
    let there = slice_get-get_or ds 0 0 some in
    absurd (cc (e, there))

other_first : (ds : List ℕ) (first : ℕ) → Some first ≡ slice_get ds 0 → first ≤ 48 → (n : ℕ) → 1 ≤ n → n < 2 ^ 64 → decimal n ≢ ds
other_first ds first is low n some small same =
    let begins = get_or_from_slice_get ds 0 first 0 (sym is) in
    omega (arith, decimal_begins n some small, ap (λ (l : List ℕ). get_or l 0 0) same, begins)

pub returns-in_default-clause-none : goal.returns-in_default-clause-none
returns-in_default-clause-none c n low small same = nothing c.args.digits.now c.in_default.ensures.value n small same

pub returns-then-first-eq48-clause-none : goal.returns-then-first-eq48-clause-none
returns-then-first-eq48-clause-none c n low small same =
    elim c.then-first-eq48.branch [
      | then-first-eq48-via-then-first-eq48 w ↦ other_first c.args.digits.now c.in-Some.first.now c.in-Some.ensures.value (omega arith) n low small same
      | then-first-eq48-via-else-first-eq48+then-first-eq43 w ↦ other_first c.args.digits.now c.in-Some.first.now c.in-Some.ensures.value (omega arith) n low small same
    ]

pub returns-in-Ok-clause-written : goal.returns-in-Ok-clause-written
returns-in-Ok-clause-written c =
    let begins = get_or_from_slice_get c.args.digits.now 0 c.in-Some.first.now 0 (sym c.in-Some.ensures.value) in
    (told_number c.args.digits.now c.in-Ok.text.now c.parse.result c.ok.result c.ok.ensures.value c.in-Ok.ensures.cases.0 c.parse.ensures.value.0 (slice_get_within c.args.digits.now 0 c.in-Some.first.now (sym c.in-Some.ensures.value)) (λ e. c.if-first-eq43.false (sym begins ∙ e)) (λ e. c.if-first-eq48.false (sym begins ∙ e))).0

pub returns-in-Ok-clause-some : goal.returns-in-Ok-clause-some
returns-in-Ok-clause-some c =
    let begins = get_or_from_slice_get c.args.digits.now 0 c.in-Some.first.now 0 (sym c.in-Some.ensures.value) in
    (told_number c.args.digits.now c.in-Ok.text.now c.parse.result c.ok.result c.ok.ensures.value c.in-Ok.ensures.cases.0 c.parse.ensures.value.0 (slice_get_within c.args.digits.now 0 c.in-Some.first.now (sym c.in-Some.ensures.value)) (λ e. c.if-first-eq43.false (sym begins ∙ e)) (λ e. c.if-first-eq48.false (sym begins ∙ e))).1

pub returns-in-Ok-clause-none : goal.returns-in-Ok-clause-none
returns-in-Ok-clause-none c =
    let begins = get_or_from_slice_get c.args.digits.now 0 c.in-Some.first.now 0 (sym c.in-Some.ensures.value) in
    (told_number c.args.digits.now c.in-Ok.text.now c.parse.result c.ok.result c.ok.ensures.value c.in-Ok.ensures.cases.0 c.parse.ensures.value.0 (slice_get_within c.args.digits.now 0 c.in-Some.first.now (sym c.in-Some.ensures.value)) (λ e. c.if-first-eq43.false (sym begins ∙ e)) (λ e. c.if-first-eq48.false (sym begins ∙ e))).2

pub returns-in-Err-clause-none : goal.returns-in-Err-clause-none
returns-in-Err-clause-none c n low small same = c.in-Err.ensures.cases.0 (subst IsUtf8 same (IsUtf8-from_ascii (decimal n) (IsAscii-decimal n small)))

pub returns-in-Ok-clause-fits : goal.returns-in-Ok-clause-fits
returns-in-Ok-clause-fits c =
    let begins = get_or_from_slice_get c.args.digits.now 0 c.in-Some.first.now 0 (sym c.in-Some.ensures.value) in
    (told_number c.args.digits.now c.in-Ok.text.now c.parse.result c.ok.result c.ok.ensures.value c.in-Ok.ensures.cases.0 c.parse.ensures.value.0 (slice_get_within c.args.digits.now 0 c.in-Some.first.now (sym c.in-Some.ensures.value)) (λ e. c.if-first-eq43.false (sym begins ∙ e)) (λ e. c.if-first-eq48.false (sym begins ∙ e))).3
