-- What stands in front of an entry's word: as far as its parts are known.
use Rattle.std.specs.Prelude.{List, None, Option, Some, ℕ, ◌≡◌}
use Rattle.std.proofs.Common.{ap, sym}
use Rattle.tt_script.specs.declared.script.Script.{Script}
use Rattle.tt_history.specs.declared.history.Actor.{Actor}
use Rattle.tt_plain.specs.Answers.{◌>>=◌}
use Rattle.tt_journal_read.specs.steps.Reading.{actor_of, head_of, number_up_to, parted, signed_number, widest}
use Rattle.tt_journal_read.proofs.Chains.{then_is}

fails : {A B : Type 0} (o : Option A) (f : A → Option B) → None ≡ o → (o >>= f) ≡ None
fails o f none = ap (λ p. p >>= f) (sym none)

module _ (program : Script) (body : List ℕ) where
  pub no_first : None ≡ parted 32 body → None ≡ head_of program body
  unfolding head_of
  no_first none = sym (fails (parted 32 body) _ none)

  module _ (first : List ℕ × List ℕ) (is_first : Some first ≡ parted 32 body) where
    pub no_second : None ≡ parted 32 first.1 → None ≡ head_of program body
    unfolding head_of
    no_second none = sym (then_is (parted 32 body) _ first None (sym is_first) (fails (parted 32 first.1) _ none))

    module _ (second : List ℕ × List ℕ) (is_second : Some second ≡ parted 32 first.1) where
      pub no_third : None ≡ parted 32 second.1 → None ≡ head_of program body
      unfolding head_of
      no_third none =
          sym (then_is (parted 32 body) _ first None (sym is_first)
          (then_is (parted 32 first.1) _ second None (sym is_second) (fails (parted 32 second.1) _ none)))

      module _ (third : List ℕ × List ℕ) (is_third : Some third ≡ parted 32 second.1) where
        -- both sides where all three blanks are found
        found : (answer : Option (ℕ × Actor × ℕ × List ℕ))
            → (signed_number 64 first.0 >>= λ moment. actor_of program second.0 >>= λ actor. number_up_to widest third.0 >>= λ index. Some (moment, actor, index, third.1)) ≡ answer
            → answer ≡ head_of program body
        unfolding head_of
        found answer e =
            sym (then_is (parted 32 body) _ first answer (sym is_first)
            (then_is (parted 32 first.1) _ second answer (sym is_second) (then_is (parted 32 second.1) _ third answer (sym is_third) e)))

        pub no_moment : None ≡ signed_number 64 first.0 → None ≡ head_of program body
        no_moment none = found None (fails (signed_number 64 first.0) _ none)

        module _ (moment : ℕ) (is_moment : Some moment ≡ signed_number 64 first.0) where
          pub no_actor : None ≡ actor_of program second.0 → None ≡ head_of program body
          no_actor none = found None (then_is (signed_number 64 first.0) _ moment None (sym is_moment) (fails (actor_of program second.0) _ none))

          module _ (actor : Actor) (is_actor : Some actor ≡ actor_of program second.0) where
            pub no_index : None ≡ number_up_to widest third.0 → None ≡ head_of program body
            no_index none =
                found None (then_is (signed_number 64 first.0) _ moment None (sym is_moment)
                (then_is (actor_of program second.0) _ actor None (sym is_actor) (fails (number_up_to widest third.0) _ none)))

            pub all_found : (index : ℕ) → Some index ≡ number_up_to widest third.0 → Some (moment, actor, index, third.1) ≡ head_of program body
            all_found index is_index =
                let answer = Some (moment, actor, index, third.1) in
                found answer (then_is (signed_number 64 first.0) _ moment answer (sym is_moment)
                (then_is (actor_of program second.0) _ actor answer (sym is_actor) (ap (λ (o : Option ℕ). o >>= λ i. Some (moment, actor, i, third.1)) (sym is_index))))
