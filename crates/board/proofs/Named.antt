-- Code 10 names the rule that broke (document 02, request 4).
--     Named             the rule is broken at the combination, where nothing excuses it, and is the lowest there; no lower combination breaks any
--     judged-breaks     tables get 10 with a combination and a rule exactly if these are the ones named
--     BreaksSheet, check-10      and so does the sheet of such tables, and no other
-- Assumes nothing.
use mathlib.Core.Path.{◌≡◌, refl, sym, ap, subst, ◌∙◌}
use mathlib.Core.Bool.{true}
use mathlib.Core.List.{List, ◌++◌}
use mathlib.Core.Logic.{◌↔◌, by_cases}
use Prim.Native.Nat.{ℕ, ◌<◌}
use native.Mathlib.Decide.{dec_lt}
use native.Mathlib.Omega.{arith}
use borrow.Author.Tests.{lt-ltb, le-ltb}
use lib.Count.{ones}
use lib.ListN.{length, get_or}
use lib.Pow.{pow_pos}
use Rattle.std.proofs.lemmas.Bool.{false_from_ne_true}
use Rattle.wires.specs.Terms.{Holds, Breaks, Fault, Excused}
use Rattle.steps.specs.declared.Outcome.{Outcome}
use Rattle.steps.specs.Outcome.{success, rule_broken, refused_job}
use Rattle.steps.proofs.Codes.{codes-differ, sheets-differ, answer-code-bounds}
use Rattle.sheet.specs.declared.Form.{Form}
use Rattle.sheet.specs.Job.{Job, Verdict, accepted, rejected}
use Rattle.sheet.specs.JobSheet.{read_job}
use Rattle.answer.specs.Answer.{tables, walk, AnswerVerdict, answered}
use Rattle.answer.specs.Answer.{rejected as unanswered}
use Rattle.answer.specs.Written.{tables_sheet, Bytes, IsPair}
use Rattle.answer.proofs.There.{tables-there}
use Rattle.answer.proofs.Sheets.{tables-read, tables-sheet}
use Rattle.board.specs.Board.{Board, at_b}
use Rattle.board.specs.Tables.{held}
use Rattle.board.specs.Tests.{lowest}
use Rattle.board.specs.JobBoard.{job_board}
use Rattle.board.specs.Check.{fault_at, rule_at, tables_at, judge_tables, judge, judge_sheet, after_job, check_outcome}
use Rattle.board.proofs.Lowest.{lowest-at, lowest-least, lowest-is}
use Rattle.board.proofs.Rules.{faultb-iff, counted-holds, rule-among, rule-breaks, rule-least, rule-is}
use Rattle.board.proofs.Tested.{tested-rule}
use Rattle.board.proofs.Codes.{verdict_for, walk-not}

module _ (j : Job) (T : List ℕ) where
  abbrev B : Board
  B = job_board j

  abbrev n : ℕ
  n = length j.pins

  -- what A and B are set to: the rows that the combination shows
  abbrev cell_a : ℕ → ℕ
  cell_a a = held T (B.show_a a)

  abbrev cell_b : ℕ → ℕ
  cell_b a = held T (at_b B a)

  -- rule i holds there, or is broken
  abbrev pub Keeps : (a i : ℕ) → Type 0
  Keeps a i = Holds n a (cell_a a) (cell_b a) (get_or j.rules i 0)

  abbrev pub BreaksRule : (a i : ℕ) → Type 0
  BreaksRule a i = Breaks n a (cell_a a) (cell_b a) (get_or j.rules i 0)

  -- the combination is not excused
  abbrev pub Unexcused : ℕ → Type 0
  Unexcused a = Excused n j.excuses (length j.excuses) a → ⊥

  pub record Named (place rule : ℕ) : Type 0 where
    pub combination : place < B.combinations
    pub unexcused : Unexcused place
    pub among : rule < length j.rules
    pub broken : BreaksRule place rule
    pub lower_rules : (i : ℕ) → i < rule → Keeps place i
    pub lower_places : (a : ℕ) → a < place → Unexcused a → (i : ℕ) → i < length j.rules → Keeps a i

  fault : (a : ℕ) → (fault_at B T a ≡ true) ↔ (Fault n j.rules (length j.rules) a (cell_a a) (cell_b a) × Unexcused a)
  fault a = faultb-iff n j.rules j.excuses a (cell_a a) (cell_b a)

  abbrev low : ℕ
  low = lowest (fault_at B T) B.combinations

  named-low : low < B.combinations → Named low (rule_at B T low)
  named-low h =
      let here = lowest-at (fault_at B T) B.combinations h in
      let f = (fault low).0 here in
      let among = rule-among n j.rules low (cell_a low) (cell_b low) f.0 in
      rw (tested-rule B low (cell_a low) (cell_b low) here) (record {
        combination = h;
        unexcused = f.1;
        among = among;
        broken = rule-breaks n j.rules low (cell_a low) (cell_b low) among;
        lower_rules = rule-least n j.rules low (cell_a low) (cell_b low);
        lower_places = λ a l free. counted-holds n j.rules j.excuses a (cell_a a) (cell_b a) (lowest-least (fault_at B T) B.combinations a l) free;
      })

  module _ (place rule : ℕ) where
    breaks-to : judge_tables B T ≡ rule_broken place rule → Named place rule
    unfolding judge_tables
    breaks-to e =
        by_cases (dec_lt low B.combinations)
        (λ h.
        let same : rule_broken low (rule_at B T low) ≡ rule_broken place rule = rw (lt-ltb low B.combinations h) at e in
        subst (λ (o : Outcome). Named o.place o.rule) same (named-low h))
        (λ h. absurd (codes-differ (success 20 0) (rule_broken place rule) (λ z. omega arith) (rw (le-ltb low B.combinations (omega arith)) at e)))

    there : Named place rule → fault_at B T place ≡ true
    there g = (fault place).1 ((rule, g.among, g.broken), g.unexcused)

    place-low : Named place rule → place ≡ low
    place-low g =
        lowest-is (fault_at B T) B.combinations place g.combination (there g)
        (λ a l. false_from_ne_true (fault_at B T a) (λ e. let f = (fault a).0 e in f.0.2 (g.lower_places a l f.1 f.0.0 f.0.1)))

    rule-low : Named place rule → rule ≡ rule_at B T place
    rule-low g =
        rule-is n j.rules place (cell_a place) (cell_b place) rule g.among g.broken g.lower_rules
        ∙ sym (tested-rule B place (cell_a place) (cell_b place) (there g))

    breaks-from : Named place rule → judge_tables B T ≡ rule_broken place rule
    unfolding judge_tables
    breaks-from g =
        ap (tables_at B (rule_at B T)) (sym (place-low g)) ∙ rw (lt-ltb place B.combinations g.combination) (ap (rule_broken place) (sym (rule-low g)))

    pub judged-breaks : (judge_tables B T ≡ rule_broken place rule) ↔ Named place rule
    judged-breaks = (breaks-to, breaks-from)

-- the answer is the tables sheet of a pair that breaks this rule of the job, at this combination
pub record BreaksSheet (f : Form) (job answer : List ℕ) (place rule : ℕ) : Type 0 where
  pub j : Job
  pub read : read_job f job ≡ accepted j
  pub xs : List ℕ
  pub ys : List ℕ
  pub sheet : answer ≡ tables_sheet xs ys
  pub pair : IsPair (job_board j).rows_a (job_board j).rows_b xs ys
  pub named : Named j (xs ++ ys) place rule

module _ (f : Form) (job answer : List ℕ) (bytes : Bytes answer) (place rule : ℕ) where
  judge-10 : (j : Job) → read_job f job ≡ accepted j → (v : AnswerVerdict) → verdict_for answer j ≡ v → judge (job_board j) v ≡ rule_broken place rule → BreaksSheet f job answer place rule
  judge-10 j e (answered (tables xs ys)) p q =
      record {
        j = j;
        read = e;
        xs = xs;
        ys = ys;
        sheet = tables-sheet _ _ _ answer xs ys bytes p;
        pair = (tables-there _ _ _ answer xs ys p).pair;
        named = (judged-breaks j (xs ++ ys) place rule).0 q;
      }
  judge-10 j e (answered (walk es)) p q =
      absurd (walk-not (job_board j) es 10 (λ z. omega arith) (λ z. omega arith) (λ z. omega arith) (ap (λ (o : Outcome). o.code) q))
  judge-10 j e (unanswered w) p q = absurd ((answer-code-bounds w).1 (ap (λ (o : Outcome). o.code) q))

  to-10 : (v : Verdict) → read_job f job ≡ v → after_job v answer ≡ rule_broken place rule → BreaksSheet f job answer place rule
  unfolding judge_sheet
  to-10 (accepted j) e q = judge-10 j e (verdict_for answer j) refl q
  to-10 (rejected w) e q = absurd (sheets-differ (refused_job 1 w) (rule_broken place rule) (λ z. omega arith) q)

  from-10 : (x : BreaksSheet f job answer place rule) → check_outcome f job (tables_sheet x.xs x.ys) ≡ rule_broken place rule
  unfolding check_outcome judge_sheet
  from-10 x =
      rw (x.read, tables-read (job_board x.j).rows_a (job_board x.j).rows_b (job_board x.j).combinations x.xs x.ys (pow_pos (ones x.j.sees_a)) x.pair)
      ((judged-breaks x.j (x.xs ++ x.ys) place rule).1 x.named)

  pub check-10 : (check_outcome f job answer ≡ rule_broken place rule) ↔ BreaksSheet f job answer place rule
  unfolding check_outcome
  check-10 = (to-10 (read_job f job) refl, λ x. ap (check_outcome f job) x.sheet ∙ from-10 x)
