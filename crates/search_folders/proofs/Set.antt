-- What criteria that a search gets come to, step by step.
use Rattle.std.proofs.Common.{◌≡◌, ℕ, Bool, true, List, Option, Some, Result, Ok, Err, sym, subst}
use Rattle.command_text.specs.declared.reply.CommandRefusal.{CommandRefusal}
use Rattle.command_text.specs.declared.reply.CommandRefusal.TheVariants.{Criteria, Flags}
use Rattle.command_text.specs.declared.reply.LastLine.TheVariants.{Done}
use Rattle.mapi_values.specs.Keyed.{put_key}
use Rattle.search_obj.specs.Changing.{changed}
use Rattle.search_obj.specs.Crits.{Crit, CritSet}
use Rattle.search_obj.specs.Flags.{flags_of}
use Rattle.search_obj.specs.Objects as object
use Rattle.search_obj.specs.Writing.{written}
use Rattle.mail_objects.specs.Forms.{Ctx}
use Rattle.mail_tree.specs.Changing.{Answer, Changed, ◌>>=◌, context_at, found, known, nothing}
use Rattle.mail_tree.specs.Folders.{Outcome, replied, replying, unchanged}
use Rattle.mail_tree.specs.Settling.{with_context}
use Rattle.mail_tree.specs.Tree.{Tree}
use Rattle.mail_draft.specs.Answers.{Says}
use Rattle.mail_draft.specs.declared.stop.Stop.{Stop}
use Rattle.mail_draft.proofs.Passes.{then_says}
use Rattle.mail_searches.specs.Criteria.{Coming, built_unless, can_hold, criteria_in, criteria_line, given_criteria, given_restriction, given_scope, overfills, setting_criteria, told_criteria, unless_other, with_criteria}
use Rattle.mail_searches.specs.Searches.{Search, criteria_node, search_id, search_of}
use Rattle.mail_searches.specs.Searching.{Searching}
use Rattle.mail_searches.proofs.HoldLaws.{written_holds}
use Rattle.search_folders.specs.Givens.{Gift, criteria_after, given_all}
use Rattle.search_folders.specs.Pieces.{criteria_at, setting, told_where, unless_among}

abbrev both : Ctx → Crit → Answer (Ctx × Crit)
both c k = Ok (c, k)

-- what follows the criteria of a search, after the two steps that read them
pub from_criteria : {C D : Type 0} (view : D → C) (T : Tree) (s : ℕ) (g : Ctx → Crit → Answer C) (result : Result D Stop)
    → Says view (criteria_at T s >>= λ p. g p.0 p.1) result → Says view (context_at T nothing (criteria_node s) >>= λ c. criteria_in c >>= λ k. g c k) result
unfolding criteria_at
from_criteria {C} view T s g result = read (context_at T nothing (criteria_node s))
  where
    say : (c : Ctx) (b : Answer Crit) → Says view ((b >>= both c) >>= λ p. g p.0 p.1) result → Says view (b >>= λ k. g c k) result
    say c (Ok k) said = said
    say c (Err e) said = said

    read : (a : Answer Ctx) → Says view ((a >>= λ c. criteria_in c >>= both c) >>= λ p. g p.0 p.1) result → Says view (a >>= λ c. criteria_in c >>= λ k. g c k) result
    read (Ok c) said = say c (criteria_in c) said
    read (Err e) said = said

-- a step for each of three values, after the step that takes the three
one_by_one : {A B E C D : Type 0} (view : D → C) (a : Answer A) (b : Answer B) (e : Answer E) (f : A × (B × E) → Answer C) (result : Result D Stop)
    → Says view ((a >>= λ x. b >>= λ y. e >>= λ z. Ok (x, (y, z))) >>= f) result → Says view (a >>= λ x. b >>= λ y. e >>= λ z. f (x, (y, z))) result
one_by_one view (Err r) b e f result said = said
one_by_one view (Ok x) (Err r) e f result said = said
one_by_one view (Ok x) (Ok y) (Err r) f result said = said
one_by_one view (Ok x) (Ok y) (Ok z) f result said = said

-- an object and the criteria after those that it says, one after the other
changed_after : {C D : Type 0} (view : D → C) (a : Answer (Ctx × Crit)) (next : Crit → Answer Crit) (f : Ctx → Crit → Answer C) (result : Result D Stop)
    → Says view ((a >>= λ p. next p.1 >>= both p.0) >>= λ q. f q.0 q.1) result → Says view (a >>= λ p. next p.1 >>= f p.0) result
changed_after view (Err e) next f result said = said
changed_after view (Ok p) next f result said = one (next p.1) said
  where
    one : (b : Answer Crit) → Says view ((b >>= both p.0) >>= λ q. f q.0 q.1) result → Says view (b >>= f p.0) result
    one (Ok k) said = said
    one (Err e) said = said

-- what follows is said of each step
follows : {A C D : Type 0} (view : D → C) (a : Answer A) (f g : A → Answer C) (result : Result D Stop) → ((x : A) → Says view (f x) result → Says view (g x) result) → Says view (a >>= f) result → Says view (a >>= g) result
follows view (Ok x) f g result each said = each x said
follows view (Err e) f g result each said = said

-- what a line comes to, once all that it gives was taken
pub given_says : {D : Type 0} (view : D → Coming) (X : Searching) (s number : ℕ) (scope bytes : Option (List ℕ)) (result : Result D Stop)
    → Says view (unless_other X s >>= λ u. given_all X.tree number scope bytes >>= λ g. criteria_after X.tree s g >>= λ p. with_criteria X s p.0 p.1) result → Says view (given_criteria X s number scope bytes) result
unfolding given_criteria given_all criteria_after
given_says view X s number scope bytes result =
    follows view (unless_other X s) (λ u. given_all X.tree number scope bytes >>= λ g. criteria_after X.tree s g >>= λ p. with_criteria X s p.0 p.1) _ result λ u said.
    one_by_one view (found Flags (flags_of number)) (given_restriction bytes) (given_scope X.tree scope) (λ g. context_at X.tree nothing (criteria_node s) >>= λ c. criteria_in c >>= λ old. next g old >>= with_criteria X s c) result
    (follows view (given_all X.tree number scope bytes) (λ g. criteria_after X.tree s g >>= λ p. with_criteria X s p.0 p.1) _ result
    (λ g h. from_criteria view X.tree s (λ c old. next g old >>= with_criteria X s c) result (changed_after view (criteria_at X.tree s) (next g) (with_criteria X s) result h)) said)
  where
    next : Gift → Crit → Answer Crit
    next g old = found Criteria (changed old g.0 g.1.1 g.1.0)

-- what a search gets whose object says the criteria, is what it is to get
pub set_on : {D : Type 0} (view : D → Coming) (X : Searching) (s : ℕ) (c : Ctx) (k : Crit) (set : CritSet) (E : Changed) (own : Search) (stopped : Bool) (result : Result D Stop)
    → k.set ≡ Some set → object.Says (written k c.props) k → E ≡ with_context (criteria_node s) c (written k c.props) nothing → own ≡ search_of s set → stopped ≡ set.flags.stop
    → Says view (setting X own stopped E) result → Says view (with_criteria X s c k) result
unfolding with_criteria setting_criteria setting
set_on view X s c k set E own stopped result e says put is stops then =
    let holds : can_hold set ≡ true = written_holds k set c.props e says in
    let rest : Says view (known (Some set) >>= setting_criteria X s c k) result = rw holds (rw (is, put, stops) at then) in
    subst (λ (o : Option CritSet). Says view (known o >>= setting_criteria X s c k) result) (sym e) rest

-- the reply, after the list was built
pub replies_on : {B D : Type 0} (changed : B → Changed) (view : D → Outcome) (X : Searching) (search : Search) (stopped : Bool) (E : Changed) (before after : List Search) (reason : Option CommandRefusal) (built : B) (result : Result D Stop)
    → X.searches ≡ before → after ≡ put_key search_id search before → reason ≡ overfills before after
    → Says changed (built_unless stopped X.tree search E) (Ok built) → Says view (replying X.tree reason (replied Done) (changed built)) result
    → Says view (built_unless stopped X.tree search E >>= replying X.tree (overfills X.searches (put_key search_id search X.searches)) (replied Done)) result
replies_on changed view X search stopped E before after reason built result old new why first then =
    rw old (then_says changed view (built_unless stopped X.tree search E) (replying X.tree (overfills before (put_key search_id search before)) (replied Done)) built result first (rw (why, new) at then))

-- the folder is one of the own search folders that are known
pub other_among : {D : Type 0} (view : D → Unit {0}) (X : Searching) (s : ℕ) (own : List ℕ) (result : Result D Stop) → X.own ≡ own → Says view (unless_among X.tree own s) result → Says view (unless_other X s) result
other_among view X s own result same said = rw same said

-- what was set of a search, where the own search folders are those that are known
pub told_says : {D : Type 0} (view : D → Outcome) (X : Searching) (s : ℕ) (own : List ℕ) (result : Result D Stop) → X.own ≡ own → Says view (told_where X.tree own s) result → Says view (told_criteria X s) result
unfolding told_where told_criteria
told_says view X s own result same said =
    follows view (unless_other X s) (λ u. criteria_at X.tree s >>= λ p. Ok (unchanged X.tree (replied (criteria_line p.1.set)))) _ result
    (λ u. from_criteria view X.tree s (λ (c : Ctx) (k : Crit). Ok (unchanged X.tree (replied (criteria_line k.set)))) result) (rw (← same) at said)
