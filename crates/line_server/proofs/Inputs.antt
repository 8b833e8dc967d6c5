-- How input goes on being held from call to call.
use Rattle.std.proofs.Common.{◌≡◌, ◌∙◌, ℕ, ap, sym, Bool, true, false, List, [], ◌∷◌, ◌++◌, append_assoc, eqb, eqb-true}
use Rattle.std.proofs.lemmas.Bool.{true≢false}
use Rattle.pst_outside.specs.World.{World}
use Rattle.line_server.specs.Taking.{Takes, GoesOn, EndsIn}

rest_of_nothing : (xs ys : List ℕ) → [] ≡ xs ++ ys → ys ≡ []
rest_of_nothing [] ys is = sym is
rest_of_nothing (x ∷ xs) ys is = absurd (cc)

clash : {A : Type 0} (b : Bool) → b ≡ true → b ≡ false → A
clash b t f = absurd (true≢false (sym t ∙ f))

pub goes_on_more : {was now : Bool} {n : ℕ} {a b d : List ℕ} {first mid last : World} → GoesOn was a b first mid → (was ≡ true → now ≡ true) → now ≡ false
    → Takes n b d mid last → (last.tells → mid.tells) → GoesOn was a d first last
goes_on_more {now = now} {a = a} p stays not_yet q told = record {
  more = p.more ++ q.more;
  behind = q.behind ∙ ap (λ x. x ++ q.more) p.behind ∙ append_assoc a p.more q.more;
  none = λ t. clash now (stays t) not_yet;
  input = λ t. p.input (told t) ∙ ap (λ x. p.more ++ x) (q.input t) ∙ sym (append_assoc p.more q.more _);
}

pub ends_on : {was now : Bool} {n : ℕ} {b d : List ℕ} {first mid last : World} → EndsIn was now first mid → now ≡ false → Takes n b d mid last → EndsIn was (eqb n 0) first last
ends_on {now = now} {n = n} p not_yet q = record {
  stays = λ t. clash now (p.stays t) not_yet;
  end = λ before is t. rest_of_nothing q.more _ (sym (q.end t (eqb-true n 0 is)) ∙ q.input t);
}
