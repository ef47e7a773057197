use Rattle.std.proofs.Common.{◌≡◌, ℕ, ◌<◌, ◌^◌, Bool, true, false, ℤ, pos, ◌-ℤ◌, int_lt, to_z, of_z, w64, ap, sym, ◌∙◌, refl, arith}
use Rattle.std.proofs.lemmas.Int.{ints, to_z_pos}
use Rattle.tt_retain.specs.declared.stage.Stage.TheVariants.{FailSafe, Gone}
use Rattle.tt_retain.specs.Retention.{Retention}
use Rattle.tt_retain.specs.Horizon.{horizon_of, stage_of}
use Rattle.tt_retain.proofs.regimes.Regimes.stage.Goals as goal
use Rattle.tt_retain.proofs.regimes.Regimes.stage.Goals.{else-not-self-via-then-not-self+else-reaches-2, else-not-self-via-else-not-self}

is_fail_safe : (table : Retention) (ended moment : ℕ) → int_lt (horizon_of table (pos moment)) (pos ended) ≡ false
    → table.transient ≡ false → int_lt (horizon_of table (pos moment -ℤ pos 604800000)) (pos ended) ≡ true
    → FailSafe ≡ stage_of table ended moment
is_fail_safe table ended moment now kind later = rw (now, kind, later) refl

is_gone : (table : Retention) (ended moment : ℕ) → int_lt (horizon_of table (pos moment)) (pos ended) ≡ false
    → int_lt (horizon_of table (pos moment -ℤ pos 604800000)) (pos ended) ≡ false → Gone ≡ stage_of table ended moment
is_gone table ended moment now later = kind table.transient
  where
    kind : (transient : Bool) → Gone ≡ stage_of (record table { transient = transient }) ended moment
    kind true = rw now refl
    kind false = rw (now, later) refl

is_transient : (table : Retention) (ended moment : ℕ) → int_lt (horizon_of table (pos moment)) (pos ended) ≡ false
    → table.transient ≡ true → Gone ≡ stage_of table ended moment
is_transient table ended moment now kind = rw (now, kind) refl

now_is : (m : ℕ) → m < 2 ^ 62 → to_z w64 m ≡ pos m
now_is m h = to_z_pos w64 m (omega arith)

before_is : (m : ℕ) → m < 2 ^ 62 → to_z w64 (of_z w64 (to_z w64 m -ℤ pos 604800000)) ≡ pos m -ℤ pos 604800000
before_is m h = omega (arith, ints)

answered : (table : Retention) (ended : ℕ) (z w : ℤ) (b c : Bool) → z ≡ w → b ≡ int_lt (horizon_of table z) (pos ended) → b ≡ c
    → int_lt (horizon_of table w) (pos ended) ≡ c
answered table ended z w b c e h k = ap (λ (x : ℤ). int_lt (horizon_of table x) (pos ended)) (sym e) ∙ sym h ∙ k

pub returns-then-reaches-2 : goal.returns-then-reaches-2
returns-then-reaches-2 c =
    is_fail_safe c.args.self.now c.args.ended c.args.moment
    (answered c.args.self.now c.args.ended _ _ _ false (now_is c.args.moment c.requires) c.reaches.ensures c.if-reaches.false)
    (ap (λ (t : Retention). t.transient) (sym c.self.view_is) ∙ c.if-not-self.true)
    (answered c.args.self.now c.args.ended _ _ _ true (before_is c.args.moment c.requires) c.reaches-then-not-self.ensures c.if-reaches-2.true)

pub returns-else-not-self : goal.returns-else-not-self
returns-else-not-self c =
    let now : int_lt (horizon_of c.args.self.now (pos c.args.moment)) (pos c.args.ended) ≡ false =
    answered c.args.self.now c.args.ended _ _ _ false (now_is c.args.moment c.requires) c.reaches.ensures c.if-reaches.false in
    elim c.else-not-self.branch [
      | else-not-self-via-then-not-self+else-reaches-2 w ↦
          is_gone c.args.self.now c.args.ended c.args.moment now
          (answered c.args.self.now c.args.ended _ _ _ false (before_is c.args.moment c.requires) w.reaches-then-not-self.ensures w.if-reaches-2.false)
      | else-not-self-via-else-not-self w ↦
          is_transient c.args.self.now c.args.ended c.args.moment now
          (ap (λ (t : Retention). t.transient) (sym c.self.view_is) ∙ w.if-not-self.false)
    ]
