use Rattle.std.proofs.Common.{◌≡◌, ℕ, Bool, true, false, cond, ltb, length, refl}
use Rattle.tt_textcol.specs.declared.choice.Length.{Length}
use Rattle.tt_textcol.specs.declared.encoding.Encoding.{Encoding}
use Rattle.tt_textcol.specs.declared.encoding.Encoding.TheVariants.{Dictionary}
use Rattle.tt_textcol.specs.TextBody.{body, encoding_of}
use Rattle.tt_textcol.proofs.Lengths.{chosen, shorter}
use Rattle.tt_textcol.proofs.choice.without_dictionary.Goals as goal

abbrev with_dictionary : Length → ℕ → Length
with_dictionary second d = shorter second (record { encoding = Dictionary; bytes = d })

-- the shortest of all is the dictionary where that is shorter than the others
told : (second : Length) (d : ℕ) (b : Bool) → ltb d second.bytes ≡ b → (e : Encoding) → (with_dictionary second d).encoding ≡ e → cond b Dictionary second.encoding ≡ e
told second d true t e h = rw t at h
told second d false t e h = rw t at h

pub returns-clause-shortest : goal.returns-clause-shortest
returns-clause-shortest c =
    let second = c.shorter.result in
    let d : ℕ = length (body c.args.values.now Dictionary) in
    told second d (ltb d second.bytes) refl (encoding_of c.args.values.now) (chosen c.args.values.now _ _ d second (with_dictionary second d) c.plain_length.ensures.size c.run_length.ensures refl c.shorter.ensures refl)
