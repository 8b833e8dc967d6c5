-- Ids, read one word after another.
use Rattle.std.proofs.Common.{◌≡◌, ℕ, ◌<◌, List, [], ◌∷◌, ◌++◌, get_or, length, zero, suc, refl, ap, sym, ◌∙◌, arith, Option, Some, None}
use Rattle.std.specs.Prelude.{Bool, false, option_map, option_and_then, map}
use Rattle.std.specs.List.{slice_split}
use Rattle.std.specs.Slice.Iter as slice
use Rattle.std.specs.declared.slice.Split.{Split}
use Rattle.std.specs.Iterator.{Yields}
use Rattle.std.specs.Fn.{CalledAt}
use Rattle.std.proofs.lemmas.Iterator.Consumers.{YieldsList-turn, YieldsList-end}
use Rattle.std.proofs.lemmas.Iterator.Splits.{YieldsList-from_slice_split}
use denote.Param.Members.{Mut}
use denote.Ref.{Bor}
use Rattle.std.proofs.lemmas.List.{map-append}
use Rattle.command_text.specs.Words.{id_of, all_ids}

onto_end : (id : ℕ) (first : Option ℕ) (rest : Option (List ℕ)) → option_and_then (λ i. option_map (λ ids. i ∷ ids) (option_map (λ ids. ids ++ id ∷ []) rest)) first
    ≡ option_map (λ ids. ids ++ id ∷ []) (option_and_then (λ i. option_map (λ ids. i ∷ ids) rest) first)
onto_end id None rest = refl
onto_end id (Some i) None = refl
onto_end id (Some i) (Some ids) = refl

-- one word more gives one id more
more_ids : (words : List (List ℕ)) (word : List ℕ) (id : ℕ) → id_of word ≡ Some id → all_ids (words ++ word ∷ []) ≡ option_map (λ ids. ids ++ id ∷ []) (all_ids words)
more_ids [] word id e = rw e refl
more_ids (w ∷ words) word id e = rw (more_ids words word id e) (onto_end id (id_of w) (all_ids words))

-- the same, where what reads the words and the ids is mapped
pub one_id_more : {A B : Type 0} (v : A → List ℕ) (n : B → ℕ) (xs : List A) (x : A) (ys zs : List B) (y : B) → all_ids (map v xs) ≡ Some (map n ys)
    → Some (n y) ≡ id_of (v x) → zs ≡ ys ++ y ∷ [] → all_ids (map v (xs ++ x ∷ [])) ≡ Some (map n zs)
one_id_more v n xs x ys zs y all one pushed =
    ap all_ids (map-append v xs (x ∷ [])) ∙ more_ids (map v xs) (v x) (n y) (sym one) ∙ ap (option_map (λ ids. ids ++ n y ∷ [])) all
    ∙ ap Some (sym (ap (map n) pushed ∙ map-append n ys (y ∷ [])))

no_ids : (first : Option ℕ) → option_and_then (λ i. option_map (λ ids. i ∷ ids) None) first ≡ None
no_ids None = refl
no_ids (Some i) = refl

-- a word that writes no id makes none of all
pub no_id : (words : List (List ℕ)) (i : ℕ) (d : List ℕ) → i < length words → None ≡ id_of (get_or words i d) → all_ids words ≡ None
no_id [] i d within e = absurd (omega arith)
no_id (w ∷ words) zero d within e = ap (option_and_then (λ id. option_map (λ ids. id ∷ ids) (all_ids words))) (sym e)
no_id (w ∷ words) (suc i) d within e = rw (no_id words i d (omega arith) e) (no_ids (id_of w))

module _ {F : Type 0} {g : Mut F (Bor ℕ × Unit {0}) Bool} {f : F} (s : Split ℕ F) (p : ℕ → Bool) (bytes : List ℕ) (xs : List (Bor (List ℕ))) (t : Split ℕ F) (yields : Yields (slice.split_steps g) s xs t)
    (rest : slice.split_rest s ≡ bytes) (done : slice.split_done s ≡ false) (closure : slice.split_callee s ≡ f) (tests : (x : ℕ) (b : Bool) (q : F) → CalledAt g f x b q → (q ≡ f) × (b ≡ p x)) (r : Option (Bor (List ℕ)))
    (u : Split ℕ F) where
  -- the piece of this turn is the next
  pub piece_turn : (x : Bor (List ℕ)) → r ≡ Some x → slice.split_steps g t r u → (length xs < length (slice_split p bytes)) × (x.now ≡ get_or (slice_split p bytes) (length xs) x.now)
  piece_turn x is steps = YieldsList-turn (YieldsList-from_slice_split g p bytes rest done closure tests) xs t yields r u x is steps

  -- at the end each piece had its turn
  pub piece_end : r ≡ None → slice.split_steps g t r u → map (λ x. x.now) xs ≡ slice_split p bytes
  piece_end is steps = (YieldsList-end (YieldsList-from_slice_split g p bytes rest done closure tests) xs t yields r u is steps).0
