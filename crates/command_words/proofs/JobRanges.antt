-- The values of a job are in their ranges.
use Rattle.std.proofs.Common.{◌≡◌, ◌≤◌, ℕ, Bool, true, false, cond, List, [], ◌∷◌, refl, sym, ◌∙◌, ap, subst, arith, inl, inr}
use Rattle.std.specs.Prelude.{not, ◌&&◌, nat_le, find, IfSome, Option, Some, None, option_map, option_and_then, unwrap_or}
use Rattle.std.specs.List.{list_all}
use Rattle.std.specs.Option.{option_map_or}
use Rattle.std.specs.Str.{bytes_eq}
use Rattle.std.proofs.lemmas.Bool.{cases_Bool, and_parts, leb-true}
use Rattle.tpz_base.specs.Texts.{Bytes}
use Rattle.tpz_base.proofs.CutLaw.{Member}
use Rattle.tpz_base.proofs.Elements.{at_all}
use Rattle.ply_head.specs.Numbers.{are_digits, value}
use Rattle.mesh_gen.specs.Generator.{IsSize}
use Rattle.command_words.specs.declared.jobs.Job.{Job}
use Rattle.command_words.specs.declared.jobs.Job.TheVariants.{Finest, Build, Gen, Info, Replay, Tour}
use Rattle.command_words.specs.Words.{Command, Given, Setting, asked, are_different, are_options, budget, build, cap, commands, digits, finest, gen, given_in, info, is_met, is_of, is_value, job_with, needed_for, number_for, replay, size, text_for, tour, tries}

-- ---- what is given for an option

met : (settings : List Setting) (s : Setting) (gs : List Given) → are_options settings gs ≡ true → Member settings s → is_met gs s ≡ true
met settings s gs fits m =
    let own = and_parts (list_all (is_of settings) gs) _ fits in
    let rest = and_parts (are_different gs) _ own.1 in
    at_all (is_met gs) settings s rest.1 m

abbrev IsWithin : Setting → ℕ → Type 0
IsWithin s n = (s.least ≤ n) × (n ≤ s.greatest)

value_within : (s : Setting) (text : Bytes) → is_value s text ≡ true → IsWithin s (value text)
value_within s text h =
    let both = and_parts (are_digits 1 10 text) (nat_le s.least (value text) && nat_le (value text) s.greatest) h in
    let range = and_parts (nat_le s.least (value text)) (nat_le (value text) s.greatest) both.1 in
    (leb-true s.least (value text) range.0, leb-true (value text) s.greatest range.1)

given_within : (s : Setting) (o : Option Bytes) → option_map_or (is_value s) o (not s.is_required) ≡ true → IfSome (option_map value o) (IsWithin s)
given_within s None h = tt
given_within s (Some text) h = value_within s text h

needed_within : (s : Setting) (o : Option Bytes) → s.is_required ≡ true → option_map_or (is_value s) o (not s.is_required) ≡ true → IsWithin s (unwrap_or (option_map value o) 0)
needed_within s None needed h = absurd (let wrong : false ≡ true = ap not (sym needed) ∙ h in cc)
needed_within s (Some text) needed h = value_within s text h

-- ---- the command of a job

-- a command with options that fit, which make a job
pub record IsAskedFor (j : Job) : Type 0 where
  pub command : Command
  pub is_there : Member commands command
  pub given : List Given
  pub fits : are_options command.settings given ≡ true
  pub job : command.job given ≡ j

find_member : {X : Type 0} (p : X → Bool) (xs : List X) (x : X) → find p xs ≡ Some x → Member xs x
find_member p [] x e = absurd cc
find_member p (y ∷ ys) x e =
    elim (cases_Bool (p y)) [
      | inl t ↦ inl (let found : Some y ≡ Some x = rw t at e in cc)
      | inr f ↦ inr (find_member p ys x (rw f at e))
    ]

of_options : (c : Command) (gs : List Given) (j : Job) → Member commands c → cond (are_options c.settings gs) (Some (c.job gs)) None ≡ Some j → IsAskedFor j
of_options c gs j m is =
    elim (cases_Bool (are_options c.settings gs)) [
      | inl e ↦ record { command = c; is_there = m; given = gs; fits = e; job = (let same : Some (c.job gs) ≡ Some j = rw e at is in cc) }
      | inr e ↦ let none : ◌≡◌ {A = Option Job} None (Some j) = rw e at is in absurd cc
    ]

of_words : (c : Command) (o : Option (List Given)) (j : Job) → Member commands c → option_and_then (λ gs. cond (are_options c.settings gs) (Some (c.job gs)) None) o ≡ Some j → IsAskedFor j
of_words c None j m is = absurd cc
of_words c (Some gs) j m is = of_options c gs j m is

of_command : (words : List Bytes) (o : Option Command) (j : Job) → ((c : Command) → o ≡ Some c → Member commands c) → option_and_then (job_with words) o ≡ Some j → IsAskedFor j
of_command words None j there is = absurd cc
of_command words (Some c) j there is = of_words c (given_in words) j (there c refl) is

pub asked_for : (words : List Bytes) (j : Job) → asked words ≡ Some j → IsAskedFor j
unfolding asked
asked_for [] j is = absurd cc
asked_for (word ∷ words) j is =
    of_command words (find (λ c. bytes_eq c.name word) commands) j (λ c e. find_member (λ d. bytes_eq d.name word) commands c e) is

-- ---- the values of each job

abbrev command_of : Job → Command
command_of (Finest d k) = finest
command_of (Build d k n) = build
command_of (Gen n) = gen
command_of (Info n) = info
command_of (Replay n) = replay
command_of (Tour d k b n) = tour

-- a command makes jobs of its own
made_by : (c : Command) (gs : List Given) → Member commands c → command_of (c.job gs) ≡ c
made_by c gs m =
    elim m [
      | inl e ↦ subst (λ (x : Command). command_of (x.job gs) ≡ x) e refl
      | inr m ↦ elim m [
        | inl e ↦ subst (λ (x : Command). command_of (x.job gs) ≡ x) e refl
        | inr m ↦ elim m [
          | inl e ↦ subst (λ (x : Command). command_of (x.job gs) ≡ x) e refl
          | inr m ↦ elim m [
            | inl e ↦ subst (λ (x : Command). command_of (x.job gs) ≡ x) e refl
            | inr m ↦ elim m [
              | inl e ↦ subst (λ (x : Command). command_of (x.job gs) ≡ x) e refl
              | inr m ↦ elim m [ inl e ↦ subst (λ (x : Command). command_of (x.job gs) ≡ x) e refl | inr none ↦ absurd none ]
            ]
          ]
        ]
      ]
    ]

-- the options that were given for a job
asked_with : (words : List Bytes) (j : Job) → asked words ≡ Some j → (gs : List Given) × (are_options (command_of j).settings gs ≡ true) × ((command_of j).job gs ≡ j)
asked_with words j is =
    let a = asked_for words j is in
    let same : a.command ≡ command_of j = sym (made_by a.command a.given a.is_there) ∙ ap command_of a.job in (
      a.given,
      subst (λ (c : Command). are_options c.settings a.given ≡ true) same a.fits,
      subst (λ (c : Command). c.job a.given ≡ j) same a.job,
    )

few_digits : (o : Option ℕ) → IfSome o (IsWithin digits) → IfSome o (λ n. n ≤ 9)
few_digits None h = tt
few_digits (Some n) h = h.1

or_within : (s : Setting) (o : Option ℕ) (n : ℕ) → IsWithin s n → IfSome o (IsWithin s) → IsWithin s (unwrap_or o n)
or_within s None n own h = own
or_within s (Some m) n own h = h

-- the digits that words ask for are at most 9
pub asked_digits : (words : List Bytes) (d k : Option ℕ) → asked words ≡ Some (Finest d k) → IfSome d (λ n. n ≤ 9)
asked_digits words d k is =
    let a = asked_with words (Finest d k) is in
    let job : Finest (number_for digits a.0) (number_for cap a.0) ≡ Finest d k = a.2 in
    let same : number_for digits a.0 ≡ d = cc in
    few_digits d (subst (λ o. IfSome o (IsWithin digits)) same (given_within digits (text_for digits a.0) (met finest.settings digits a.0 a.1 (inl refl))))

-- the digits of a build are at most 9, and its cap and budget are in their ranges
pub asked_plan : (words : List Bytes) (d : Option ℕ) (k n : ℕ) → asked words ≡ Some (Build d k n) → IfSome d (λ n. n ≤ 9) × (1 ≤ k) × (k ≤ 16777216) × (1 ≤ n) × (n ≤ 4194304)
asked_plan words d k n is =
    let a = asked_with words (Build d k n) is in
    let job : Build (number_for digits a.0) (unwrap_or (number_for cap a.0) 1024) (unwrap_or (number_for budget a.0) 32768) ≡ Build d k n = a.2 in
    let same : number_for digits a.0 ≡ d = cc in
    let same_cap : unwrap_or (number_for cap a.0) 1024 ≡ k = cc in
    let same_budget : unwrap_or (number_for budget a.0) 32768 ≡ n = cc in
    let range = subst (IsWithin budget) same_budget (or_within budget (number_for budget a.0) 32768 (omega arith, omega arith) (given_within budget (text_for budget a.0) (met build.settings budget a.0 a.1 (inr (inr (inl refl)))))) in
    let caps = subst (IsWithin cap) same_cap (or_within cap (number_for cap a.0) 1024 (omega arith, omega arith) (given_within cap (text_for cap a.0) (met build.settings cap a.0 a.1 (inr (inl refl))))) in (
      few_digits d (subst (λ o. IfSome o (IsWithin digits)) same (given_within digits (text_for digits a.0) (met build.settings digits a.0 a.1 (inl refl)))),
      caps.0,
      caps.1,
      range.0,
      range.1,
    )

-- the size that words ask for is one of a mesh
pub asked_size : (words : List Bytes) (n : ℕ) → asked words ≡ Some (Gen n) → IsSize n
asked_size words n is =
    let a = asked_with words (Gen n) is in
    let job : Gen (needed_for size a.0) ≡ Gen n = a.2 in
    let same : needed_for size a.0 ≡ n = cc in
    let range = subst (IsWithin size) same (needed_within size (text_for size a.0) refl (met gen.settings size a.0 a.1 (inl refl))) in
    record { least = range.0; most = range.1 }

-- the tries that words ask for are 1 to 100
pub asked_tries : (words : List Bytes) (n : ℕ) → asked words ≡ Some (Info n) → (1 ≤ n) × (n ≤ 100)
asked_tries words n is =
    let a = asked_with words (Info n) is in
    let job : Info (unwrap_or (number_for tries a.0) 3) ≡ Info n = a.2 in
    let same : unwrap_or (number_for tries a.0) 3 ≡ n = cc in
    subst (IsWithin tries) same (or_within tries (number_for tries a.0) 3 (omega arith, omega arith) (given_within tries (text_for tries a.0) (met info.settings tries a.0 a.1 (inl refl))))

pub asked_replay : (words : List Bytes) (n : ℕ) → asked words ≡ Some (Replay n) → (1 ≤ n) × (n ≤ 100)
asked_replay words n is =
    let a = asked_with words (Replay n) is in
    let job : Replay (unwrap_or (number_for tries a.0) 3) ≡ Replay n = a.2 in
    let same : unwrap_or (number_for tries a.0) 3 ≡ n = cc in
    subst (IsWithin tries) same (or_within tries (number_for tries a.0) 3 (omega arith, omega arith) (given_within tries (text_for tries a.0) (met replay.settings tries a.0 a.1 (inl refl))))

-- the same of a tour
pub asked_tour : (words : List Bytes) (d : Option ℕ) (k b n : ℕ) → asked words ≡ Some (Tour d k b n) → IfSome d (λ m. m ≤ 9) × ((1 ≤ k) × (k ≤ 16777216)) × ((1 ≤ b) × (b ≤ 4194304)) × ((1 ≤ n) × (n ≤ 100))
asked_tour words d k b n is =
    let a = asked_with words (Tour d k b n) is in
    let job : Tour (number_for digits a.0) (unwrap_or (number_for cap a.0) 1024) (unwrap_or (number_for budget a.0) 32768) (unwrap_or (number_for tries a.0) 3) ≡ Tour d k b n = a.2 in
    let same : number_for digits a.0 ≡ d = cc in
    let same_cap : unwrap_or (number_for cap a.0) 1024 ≡ k = cc in
    let same_budget : unwrap_or (number_for budget a.0) 32768 ≡ b = cc in
    let same_tries : unwrap_or (number_for tries a.0) 3 ≡ n = cc in (
      few_digits d (subst (λ o. IfSome o (IsWithin digits)) same (given_within digits (text_for digits a.0) (met tour.settings digits a.0 a.1 (inl refl)))),
      subst (IsWithin cap) same_cap (or_within cap (number_for cap a.0) 1024 (omega arith, omega arith) (given_within cap (text_for cap a.0) (met tour.settings cap a.0 a.1 (inr (inl refl))))),
      subst (IsWithin budget) same_budget (or_within budget (number_for budget a.0) 32768 (omega arith, omega arith) (given_within budget (text_for budget a.0) (met tour.settings budget a.0 a.1 (inr (inr (inl refl)))))),
      subst (IsWithin tries) same_tries (or_within tries (number_for tries a.0) 3 (omega arith, omega arith) (given_within tries (text_for tries a.0) (met tour.settings tries a.0 a.1 (inr (inr (inr (inl refl))))))),
    )

-- words ask for one job
pub one_job : (o : Option Job) (i j : Job) → o ≡ Some i → o ≡ Some j → i ≡ j
one_job o i j a b = let both : ◌≡◌ {A = Option Job} (Some i) (Some j) = sym a ∙ b in cc

-- words that spell no options of a command give no job
pub no_job : (c : Command) (words : List Bytes) → ((gs : List Given) → given_in words ≡ Some gs → are_options c.settings gs ≡ true → ⊥) → job_with words c ≡ None
no_job c words none = at (given_in words) (λ gs e. none gs e) where
  at : (o : Option (List Given)) → ((gs : List Given) → o ≡ Some gs → are_options c.settings gs ≡ true → ⊥) → option_and_then (λ gs. cond (are_options c.settings gs) (Some (c.job gs)) None) o ≡ None
  at None f = refl
  at (Some gs) f =
      elim (cases_Bool (are_options c.settings gs)) [
        | inl e ↦ absurd (f gs refl e)
        | inr e ↦ rw e refl
      ]
