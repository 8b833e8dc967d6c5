-- How many restrictions are reached, search by search.
use Rattle.std.proofs.Common.{◌≡◌, ◌<◌, ◌≤◌, ℕ, ◌+◌, true, false, List, [], ◌∷◌, length, drop, get_or, drop-cons, add-one, arith, refl, sym, ap, subst, inl, inr}
use Rattle.std.proofs.lemmas.Bool.{cases_Bool}
use Rattle.mail_searches.specs.Asking.{work_among, work_of}
use Rattle.mail_searches.specs.Relisting.{Around, Touch}
use Rattle.mail_searches.specs.Searches.{Search, runs}
use Rattle.search_results.specs.Following.{work_by}

module _ (d : Around) where
  pub work_none : (ts : List Touch) → work_of d ts [] ≡ 0
  work_none [] = refl
  work_none (t ∷ ts) = omega (arith, work_none ts)

  -- of a search that isn't running nothing is asked
  pub work_halted : (ts : List Touch) (s : Search) (ss : List Search) → runs s ≡ false → work_of d ts (s ∷ ss) ≡ work_of d ts ss
  work_halted [] s ss e = refl
  work_halted (t ∷ ts) s ss e = rw e (ap (λ n. work_among d t.old t.new ss + n) (work_halted ts s ss e))

  pub work_running : (ts : List Touch) (s : Search) (ss : List Search) → runs s ≡ true → work_of d ts (s ∷ ss) ≡ work_by d s ts + work_of d ts ss
  work_running [] s ss e = refl
  work_running (t ∷ ts) s ss e = rw e (omega (arith, work_running ts s ss e))

  -- what one search asks, and what the others ask
  pub work_split : (ts : List Touch) (s : Search) (ss : List Search) → work_of d ts (s ∷ ss) ≡ work_of d ts (s ∷ []) + work_of d ts ss
  work_split ts s ss = elim (cases_Bool (runs s)) [
    | inl b ↦ omega (arith, work_running ts s ss b, work_running ts s [] b, work_none ts)
    | inr b ↦ omega (arith, work_halted ts s ss b, work_halted ts s [] b, work_none ts)
  ]

  pub work_from : (ts : List Touch) (ss : List Search) (i : ℕ) (s : Search) → i < length ss → s ≡ get_or ss i s → work_of d ts (drop i ss) ≡ work_of d ts (s ∷ []) + work_of d ts (drop (i + 1) ss)
  work_from ts ss i s h is =
      subst (λ (x : Search). work_of d ts (drop i ss) ≡ work_of d ts (x ∷ []) + work_of d ts (drop (i + 1) ss)) (sym is) (rw (add-one, drop-cons ss i s h) (work_split ts (get_or ss i s) _))

-- the same places, the same work
pub more_by : (s : Search) (ts : List Touch) (old new : ℕ) {d e : Around} → d ≡ e → new ≤ old + work_by d s ts → new ≤ old + work_by e s ts
more_by s ts old new same h = subst (λ (x : Around). new ≤ old + work_by x s ts) same h
