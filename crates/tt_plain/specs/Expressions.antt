-- What an expression is where it is one value alone; where it begins, its kind, and where kinds do not fit in it.
use Rattle.std.specs.Prelude.{ℕ, ◌&&◌, ◌==◌, if◌then◌else◌, List, [], ◌∷◌, ◌++◌, length, Option, Some, None}
use Rattle.tt_value.specs.declared.value.Kind.{Kind}
use Rattle.tt_value.specs.declared.value.Kind.TheVariants as kinds
use Rattle.tt_value.specs.declared.name.Literal.{Literal}
use Rattle.tt_value.specs.declared.expression.Expr.{Expr, out-Expr}
use Rattle.tt_value.specs.declared.expression.Term.{Term, out-Term}
use Rattle.tt_value.specs.declared.expression.Factor.{Factor}
use Rattle.tt_value.specs.declared.expression.Factor.TheVariants as factor
use Rattle.tt_value.specs.declared.expression.Factor.TheFolds.{fold-Expr, fold-Term, fold-Factor}
use Rattle.tt_value.specs.declared.expression.Factor.TheOpen.{Expr-F, Addend-F, Term-F, Factor-F}
use Rattle.tt_value.specs.trees.Scope.{Scope, column_kind, kind_of}
use Rattle.tt_plain.specs.Places.{each, column_begin}
use Rattle.tt_plain.specs.Kinds.{fits, unless}

-- a fold over the four types of an expression whose parts all give the same
abbrev pub Step : Type 0 → (Type 0 → Type 0 → Type 0 → Type 0 → Type 0) → Type 0
Step A Layer = Layer A A A A → A

abbrev pub fold_expr : (A : Type 0) → Step A Factor-F → Step A Addend-F → Step A Expr-F → Step A Term-F → Expr → A
fold_expr A factor addend sum product = fold-Expr A A A A factor addend sum product

abbrev pub fold_term : (A : Type 0) → Step A Factor-F → Step A Addend-F → Step A Expr-F → Step A Term-F → Term → A
fold_term A factor addend sum product = fold-Term A A A A factor addend sum product

abbrev pub fold_factor : (A : Type 0) → Step A Factor-F → Step A Addend-F → Step A Expr-F → Step A Term-F → Factor → A
fold_factor A factor addend sum product = fold-Factor A A A A factor addend sum product

-- ---- what it is, where it is one value alone

abbrev pub literal_of : Factor → Option Literal
literal_of (factor.Literal l) = Some l
literal_of _ = None

-- the value that an expression is, where it is written alone and without brackets
abbrev pub lone_literal : Expr → Option Literal
lone_literal e =
    let sum = out-Expr e in
    let product = out-Term sum.first in
    if length sum.others == 0 && length product.others == 0 then literal_of product.first else None

-- ---- where it begins, its kind, and where kinds do not fit in it

pub record Part : Type 0 where
  pub place : ℕ
  pub kind : Option Kind
  pub misfits : List ℕ

-- what is calculated with is a number
abbrev pub calculated : Part → List ℕ
calculated p = unless (fits (Some kinds.Int) p.kind) p.place ++ p.misfits

-- Of several parts each is calculated with, which gives a number; one alone is what it is.
abbrev pub joined : Part → List Part → Part
joined p [] = p
joined p (q ∷ parts) = record { place = p.place; kind = Some kinds.Int; misfits = calculated p ++ each calculated (q ∷ parts) }

module _ (scope : Scope) where
  abbrev pub factor_part : Step Part Factor-F
  factor_part (Factor-F.Literal l) = record { place = l.place; kind = kind_of l.value; misfits = [] }
  factor_part (Factor-F.Column c) = record { place = column_begin c; kind = column_kind scope c; misfits = [] }
  factor_part (Factor-F.Bracket place e) = record { place = place; kind = e.kind; misfits = e.misfits }
  factor_part (Factor-F.Negated place f) = record { place = place; kind = Some kinds.Int; misfits = calculated f }

  abbrev pub term_part : Step Part Term-F
  term_part t = joined t.first t.others

  abbrev pub sum_part : Step Part Expr-F
  sum_part e = joined e.first e.others

  unfoldable pub part_of_factor : Factor → Part
  part_of_factor = fold_factor Part factor_part (λ a. a.term) sum_part term_part

  unfoldable pub part_of_term : Term → Part
  part_of_term = fold_term Part factor_part (λ a. a.term) sum_part term_part

  unfoldable pub part_of : Expr → Part
  part_of = fold_expr Part factor_part (λ a. a.term) sum_part term_part
