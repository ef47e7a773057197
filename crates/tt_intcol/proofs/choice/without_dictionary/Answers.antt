use Rattle.std.proofs.Common.{◌≡◌, ◌≢◌, ℕ, Bool, true, false, cond, ltb, length, refl, sym, ap, ◌∙◌}
use Rattle.tt_intcol.specs.declared.choice.Length.{Length}
use Rattle.tt_intcol.specs.declared.encoding.Encoding.{Encoding}
use Rattle.tt_intcol.specs.declared.encoding.Encoding.TheVariants.{Plain, Frame, Run, Dictionary}
use Rattle.tt_intcol.specs.IntBody.{body, encoding_of}
use Rattle.tt_intcol.proofs.Lengths.{chosen_none, chosen_some, shorter, length-dictionary, length-frame}
use Rattle.tt_intcol.proofs.choice.without_dictionary.Goals as goal
use Rattle.tt_intcol.proofs.choice.without_dictionary.Goals.{then-not-is_empty, else-not-is_empty}

abbrev with_dictionary : Length → ℕ → Length
with_dictionary second d = shorter second (record { encoding = Dictionary; bytes = d })

-- the shortest of all is the dictionary where that is shorter than the others
told : (second : Length) (d : ℕ) (b : Bool) → ltb d second.bytes ≡ b → (e : Encoding) → (with_dictionary second d).encoding ≡ e → cond b Dictionary second.encoding ≡ e
told second d true t e h = rw t at h
told second d false t e h = rw t at h

pub returns-clause-shortest : goal.returns-clause-shortest
returns-clause-shortest c =
    let size = c.value_size-size.ensures in
    let plain = rw size at c.plain_length.ensures in
    let run = rw size at c.run_length.ensures in
    let second = c.shorter.result in
    let d : ℕ = length (body c.args.kind c.args.values.now Dictionary) in
    let long = length-dictionary c.args.kind c.args.values.now in
    told second d (ltb d second.bytes) refl (encoding_of c.args.kind c.args.values.now) (elim c.if-not-is_empty.branch [
      | then-not-is_empty w ↦ chosen_some c.args.kind c.args.values.now _ _ _ d c.if-not-is_empty.best second (with_dictionary second d) w.if-not-is_empty.ensures plain (c.requires ∙ length-frame c.args.kind c.args.values.now) run long (w.best-is ∙ w.shorter-best.ensures) c.shorter.ensures refl
      | else-not-is_empty w ↦ chosen_none c.args.kind c.args.values.now _ _ d second (with_dictionary second d) w.if-not-is_empty.ensures plain run long (c.shorter.ensures ∙ ap (λ (best : Length). shorter best (record { encoding = Run; bytes = c.run_length.result })) w.best-is) refl
    ])

either : (b : Bool) (x y : Length) → x.encoding ≢ Dictionary → y.encoding ≢ Dictionary → (cond b y x).encoding ≢ Dictionary
either true x y p q = q
either false x y p q = p

another : (x y : Length) → x ≡ y → y.encoding ≢ Dictionary → x.encoding ≢ Dictionary
another x y e p h = p (ap (λ (z : Length). z.encoding) (sym e) ∙ h)

is_plain : Plain ≢ Dictionary
is_plain h = absurd cc

is_frame : Frame ≢ Dictionary
is_frame h = absurd cc

is_run : Run ≢ Dictionary
is_run h = absurd cc

pub returns-clause-other : goal.returns-clause-other
returns-clause-other c =
    let best = c.if-not-is_empty.best in
    let run : Length = record { encoding = Run; bytes = c.run_length.result } in
    let first : best.encoding ≢ Dictionary = elim c.if-not-is_empty.branch [
      | then-not-is_empty w ↦
          let plain : Length = record { encoding = Plain; bytes = c.plain_length.result } in
          let frame : Length = record { encoding = Frame; bytes = c.args.frame } in
          another best (shorter plain frame) (w.best-is ∙ w.shorter-best.ensures) (either (ltb frame.bytes plain.bytes) plain frame is_plain is_frame)
      | else-not-is_empty w ↦ another best (record { encoding = Plain; bytes = c.plain_length.result }) w.best-is is_plain
    ] in
    another c.shorter.result (shorter best run) c.shorter.ensures (either (ltb run.bytes best.bytes) best run first is_run)
