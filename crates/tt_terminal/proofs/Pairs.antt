-- What a reader says is said too where another part stands in front of its answer.
use Rattle.std.proofs.Common.{◌≡◌, List, [], ◌++◌, Result, Ok, Err, IfOk, refl, sym, subst}
use Rattle.tt_sql.specs.grammar.Grammar.{Mark, Gram, Both}
use Rattle.tt_terminal.specs.declared.error.ParseError.{ParseError}
use Rattle.tt_terminal.specs.declared.error.ParseError.TheVariants.{Syntax, Memory}
use Rattle.tt_terminal.specs.declared.rest.Rest.{Rest}
use Rattle.tt_terminal.specs.Pairs.{with_first}
use Rattle.tt_terminal.specs.Reading.{Passes, Reads}
use Rattle.tt_terminal.proofs.Steps.{passes_both, stops_second}

module _ {A B : Type 0} (first : A) (second : Result (B × Rest) ParseError) (result : Result (A × B × Rest) ParseError) where
  pub pair_first : result ≡ with_first first second → IfOk result (λ x. x.0 ≡ first)
  pair_first e = subst (λ (z : Result (A × B × Rest) ParseError). IfOk z (λ x. x.0 ≡ first)) (sym e) (kept second)
    where
      kept : (s : Result (B × Rest) ParseError) → IfOk (with_first first s) (λ x. x.0 ≡ first)
      kept (Ok y) = refl
      kept (Err f) = tt

  pub pair_holds : (P : (B × Rest) → Type 0) → result ≡ with_first first second → IfOk second P → IfOk result (λ x. P (x.1, x.2))
  pair_holds P e is = subst (λ (z : Result (A × B × Rest) ParseError). IfOk z (λ x. P (x.1, x.2))) (sym e) (held second is)
    where
      held : (s : Result (B × Rest) ParseError) → IfOk s P → IfOk (with_first first s) (λ x. P (x.1, x.2))
      held (Ok y) i = i
      held (Err f) i = tt

  pub pair_reads : (marks : (B × Rest) → List Mark) (g : Gram) (r : Rest) → result ≡ with_first first second → Reads marks (λ x. x.1) g r second → Reads (λ x. marks (x.1, x.2)) (λ x. x.2) g r result
  pair_reads marks g r e a = subst (λ (z : Result (A × B × Rest) ParseError). Reads (λ x. marks (x.1, x.2)) (λ x. x.2) g r z) (sym e) (read second a)
    where
      read : (s : Result (B × Rest) ParseError) → Reads marks (λ x. x.1) g r s → Reads (λ x. marks (x.1, x.2)) (λ x. x.2) g r (with_first first s)
      read (Ok y) b = b
      read (Err (Syntax f)) b = b
      read (Err Memory) b = b

  pub pair_keeps : (P : A → Type 0) → result ≡ with_first first second → P first → IfOk result (λ x. P x.0)
  pair_keeps P e is = subst (λ (z : Result (A × B × Rest) ParseError). IfOk z (λ x. P x.0)) (sym e) (kept second)
    where
      kept : (s : Result (B × Rest) ParseError) → IfOk (with_first first s) (λ x. P x.0)
      kept (Ok y) = is
      kept (Err f) = tt

  -- the part in front was read too
  pub pair_behind : (front : A → List Mark) (marks : B → List Mark) (g h : Gram) (r s : Rest) → result ≡ with_first first second → Passes [] g r (front first) s → Reads (λ x. marks x.0) (λ x. x.1) h s second → Reads (λ x. front x.0 ++ marks x.1) (λ x. x.2) (Both g h) r result
  pair_behind front marks g h r s e p a = subst (λ (z : Result (A × B × Rest) ParseError). Reads (λ x. front x.0 ++ marks x.1) (λ x. x.2) (Both g h) r z) (sym e) (read second a)
    where
      read : (t : Result (B × Rest) ParseError) → Reads (λ x. marks x.0) (λ x. x.1) h s t → Reads (λ x. front x.0 ++ marks x.1) (λ x. x.2) (Both g h) r (with_first first t)
      read (Ok y) b = passes_both p b
      read (Err (Syntax f)) b = stops_second p b
      read (Err Memory) b = tt
