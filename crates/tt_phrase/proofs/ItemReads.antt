-- Items: an expression, unless the word of an aggregate has a bracket behind it.
use Rattle.std.proofs.Common.{◌≡◌, ℕ, zero, suc, Bool, true, false, ◌&&◌, ◌||◌, ◌==◌, List, [], ◌∷◌, length, refl, sym, ap, ◌∙◌}
use Rattle.tt_sql.specs.grammar.Grammar.{Lexeme, Mark, At, Gram, Note, nowhere}
use Rattle.tt_sql.specs.machine.Machine.{run}
use Rattle.tt_sql.proofs.machine.Decisions.{empty, tests}
use Rattle.tt_sql.proofs.machine.Steps.{run_end}
use Rattle.tt_sql.specs.grammar.TokenKinds.{COUNT, SUM, MIN, MAX, OPEN}
use Rattle.tt_sql.specs.grammar.Combinators.{way, one, ◌▸◌, ◌∣◌}
use Rattle.tt_sql.specs.machine.Factored.{read_rule, read_item, read_expr, read_other, or_aggregate, word_place}
use Rattle.tt_sql.proofs.machine.Items.{NextIsNot, item_is_expr}
use Rattle.tt_sql.specs.grammar.Lexemes.{begins_with}
use Rattle.tt_terminal.specs.declared.rest.Rest.{Rest}
use Rattle.tt_terminal.specs.Reading.{Passes, Fails, IsPlaced, IsWord, seen}
use Rattle.tt_terminal.proofs.Running.{run_both}
use Rattle.tt_terminal.proofs.Steps.{word_kind_is, is_of_one, passes_token, passes_left, passes_note, passes_anywhere, stops_token, stops_left, stops_note, stops_anywhere}

no_bracket : (a b c d o : Bool) → (a && (o && true)) ≡ false → (b && (o && true)) ≡ false → (c && (o && true)) ≡ false → (d && (o && true)) ≡ false → (a || (b || (c || (d || false)))) ≡ true → o ≡ false
no_bracket a b c d false p q r s e = refl
no_bracket true b c d true p q r s e = p
no_bracket false true c d true p q r s e = q
no_bracket false false true d true p q r s e = r
no_bracket false false false true true p q r s e = s
no_bracket false false false false true p q r s e = sym e

item_solid : (levels : ℕ) → empty (read_item nowhere levels) ≡ false
unfolding empty read_other
item_solid zero = refl
item_solid (suc levels) = refl

expr_solid : (levels : ℕ) → empty (read_expr nowhere levels ▸ way 0) ≡ false
unfolding empty read_other
expr_solid zero = refl
expr_solid (suc levels) = refl

-- no word of an aggregate with a bracket behind it
pub record IsPlain (ts : List Lexeme) : Type 0 where
  pub no_count : begins_with (COUNT ∷ OPEN ∷ []) ts ≡ false
  pub no_sum : begins_with (SUM ∷ OPEN ∷ []) ts ≡ false
  pub no_min : begins_with (MIN ∷ OPEN ∷ []) ts ≡ false
  pub no_max : begins_with (MAX ∷ OPEN ∷ []) ts ≡ false

next_is_none : (t : Lexeme) (ts : List Lexeme) → IsPlain (t ∷ ts) → or_aggregate nowhere t.kind ≡ true → NextIsNot OPEN ts
next_is_none t [] p e = tt
next_is_none t (u ∷ us) p e = no_bracket (t.kind == COUNT) (t.kind == SUM) (t.kind == MIN) (t.kind == MAX) (u.kind == OPEN) p.no_count p.no_sum p.no_min p.no_max e

item_runs : (levels end : ℕ) (ts : List Lexeme) → IsPlain ts → (done : List Lexeme) (K : List Gram) → run read_rule end done (read_item nowhere levels ∷ K) ts ≡ run read_rule end done ((read_expr nowhere levels ▸ way 0) ∷ K) ts
item_runs levels end [] p done K = run_end read_rule tests end done (read_item nowhere levels) K (item_solid levels) ∙ sym (run_end read_rule tests end done (read_expr nowhere levels ▸ way 0) K (expr_solid levels))
item_runs levels end (t ∷ ts) p done K = item_is_expr end levels done K t ts (next_is_none t ts p) ∙ sym (run_both read_rule end done K (read_expr nowhere levels) (way 0) (t ∷ ts))

pub item_passes : (levels : ℕ) {r : Rest} {m : List Mark} {s : Rest} → IsPlain (seen r) → Passes [] (read_expr nowhere levels ▸ way 0) r m s → Passes [] (read_item nowhere levels) r m s
item_passes levels {r = r} {m = m} {s = s} plain p = record {
  same = p.same;
  known = p.known;
  shorter = p.shorter;
  goes = record { gone = p.goes.gone; on = λ done K. item_runs levels (length r.text.now) (seen r) plain done K ∙ p.goes.on done K };
}

pub item_stops : (levels : ℕ) {r : Rest} {at : ℕ} → IsPlain (seen r) → Fails [] (read_expr nowhere levels ▸ way 0) r at → Fails [] (read_item nowhere levels) r at
item_stops levels {r = r} {at = at} plain f = record { halts = record { on = λ done K. item_runs levels (length r.text.now) (seen r) plain done K ∙ f.halts.on done K } }

-- ---- the word of an aggregate and its bracket

pub bracket_passes : {w : ℕ} {g h : Gram} {r t u : Rest} {place : ℕ} {m : List Mark} {s : Rest} → IsPlaced w r place t → IsWord OPEN t u → Passes [] g u m s → Passes [] (one w ▸ (one OPEN ▸ Note word_place ▸ g ∣ h)) r (At place ∷ m) s
bracket_passes p o a = passes_token p.word.takes (is_of_one p.word.kind) (passes_left (word_kind_is o) refl refl (passes_token o.takes (is_of_one o.kind) (passes_note (λ done. ap (λ (x : ℕ). At x ∷ []) p.place_is) (passes_anywhere a))))

pub bracket_stops : {w : ℕ} {g h : Gram} {r t u : Rest} {place : ℕ} {at : ℕ} → IsPlaced w r place t → IsWord OPEN t u → Fails [] g u at → Fails [] (one w ▸ (one OPEN ▸ Note word_place ▸ g ∣ h)) r at
bracket_stops p o f = stops_token p.word.takes (is_of_one p.word.kind) (stops_left (word_kind_is o) refl refl (stops_token o.takes (is_of_one o.kind) (stops_note (stops_anywhere f))))
