use Rattle.std.proofs.Common.{◌≡◌, ◌+◌, ◌<◌, ◌≤◌, ap, sym, subst, ◌∙◌, refl, drop, get_or, length, min, Bor, List, ℕ, Option, Some, None}
use Rattle.std.specs.Prelude.{IfSome, slice_get}
use Rattle.std.specs.Option.{MatchOption, option_copied}
use Rattle.std.proofs.lemmas.Option.{slice_get_past, slice_get_read}
use Rattle.tt_plain.specs.stored.Points.{query_ids}
use Rattle.tt_script.specs.declared.script.Script.{Script}
use Rattle.tt_script.specs.declared.script.SessionText.{SessionText}
use Rattle.tt_travel.specs.Travel.{point_named}
use Rattle.tt_travel.proofs.Ids.{looked, looked_found, looked_next}
use Rattle.tt_travel.proofs.statements.standing.Goals as goal

all : (program : Script) (points : List (Option ℕ)) (text : List ℕ) → looked points text (drop 0 program.sessions) ≡ point_named program points text
unfolding query_ids
all program points text = refl

pub loop-lines-init : goal.loop-lines-init
loop-lines-init c = all c.args.program.now c.args.points.now c.args.id.now

got : {X : Type 0} (P : X → Type 0) (xs : List X) (k : ℕ) (r : Option (Bor X)) → IfSome r (λ x. x.now ≡ get_or xs k x.now) → MatchOption r (length xs ≤ k) (λ x. (k < length xs) × P x.now) → option_copied r ≡ slice_get xs k
got P xs k None item within = sym (slice_get_past xs k within)
got P xs k (Some x) item within = sym (slice_get_read xs (length xs) k x.now refl within.0 item)

pub returns-in-Some : goal.returns-in-Some
returns-in-Some c =
    let same : c.items-lines-items.result.now ≡ c.args.program.now.sessions = c.items-lines-items.ensures ∙ ap (λ (s : Script). s.sessions) c.script.ensures.value in
    let item : c.lines-item.result ≡ get_or c.args.program.now.sessions c.loop-lines.lines-index c.lines-item.result = subst (λ (xs : List SessionText). c.lines-item.result ≡ get_or xs c.loop-lines.lines-index c.lines-item.result) same c.lines-item.is in
    let less : c.loop-lines.lines-index < length c.args.program.now.sessions = subst (λ (xs : List SessionText). c.loop-lines.lines-index < length xs) same c.loop-lines-test.true in
    c.copied.ensures
    ∙ got _ c.loop-lines.left.now c.in-Some.place c.get.result c.get.ensures.lookup.1 c.get.ensures.lookup.3
    ∙ sym (looked_found c.loop-lines.left.now c.args.id.now c.args.program.now.sessions c.loop-lines.lines-index c.lines-item.result c.in-Some.place less item (sym c.place_in.ensures ∙ c.in-Some.is))
    ∙ c.loop-lines.invariant

pub loop-lines-preserved : goal.loop-lines-preserved
loop-lines-preserved c =
    let same : c.items-lines-items.result.now ≡ c.args.program.now.sessions = c.items-lines-items.ensures ∙ ap (λ (s : Script). s.sessions) c.script.ensures.value in
    let item : c.lines-item.result ≡ get_or c.args.program.now.sessions c.loop-lines.lines-index c.lines-item.result = subst (λ (xs : List SessionText). c.lines-item.result ≡ get_or xs c.loop-lines.lines-index c.lines-item.result) same c.lines-item.is in
    let less : c.loop-lines.lines-index < length c.args.program.now.sessions = subst (λ (xs : List SessionText). c.loop-lines.lines-index < length xs) same c.loop-lines-test.true in
    let rest : c.split_at.result.1.now ≡ drop (min c.len.result (length c.loop-lines.left.now)) c.loop-lines.left.now = c.split_at.ensures.back ∙ ap (λ n. drop n c.loop-lines.left.now) c.min.ensures in
    ap (λ (left : List (Option ℕ)). looked left c.args.id.now (drop (c.loop-lines.lines-index + 1) c.args.program.now.sessions)) rest
    ∙ looked_next c.loop-lines.left.now c.args.id.now c.args.program.now.sessions c.loop-lines.lines-index c.lines-item.result c.len.result less item (sym c.place_in.ensures ∙ c.in_default.is) c.len.ensures
    ∙ c.loop-lines.invariant
