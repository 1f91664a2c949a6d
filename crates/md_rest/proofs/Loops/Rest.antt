-- The walks over the rest of a text: what holds of what is passed, at the start, one step on and at the end.
-- Assumes nothing.
use Prim.Native.Nat.{ℕ, ◌+◌, ◌≤◌, ◌<◌}
use mathlib.Core.Path.{◌≡◌, sym, ◌∙◌}
use mathlib.Core.List.{List}
use mathlib.Core.Bool.{true, false}
use native.Mathlib.Omega.{arith}
use lib.ListN.{length, get_or}
use Rattle.base.specs.Limits.{BUILTIN_END, NEWLINE}
use Rattle.base.specs.Inner.First.{first_from}
use Rattle.base.proofs.Laws.First.{first_hit, first_miss, first_end}
use Rattle.base.proofs.Laws.Tests.{split}
use Rattle.class_records.specs.Records.{records, record_at, good_table, holder}
use Rattle.md_meaning.specs.Text.{char_at, total}
use Rattle.md_meaning.specs.Scan.{unclassed}
use Rattle.md_rest.specs.Inner.Rest.{Past, Stepped, Walked}
use Rattle.md_meaning.proofs.Laws.Scan.{get_d_any}
use Rattle.md_rest.proofs.Laws.Rest.{first_passed, builtin_classed, holder_classed, held_classed, none_unclassed, newline_classed}

-- ---- characters that have a class
module _ (classes text : List ℕ) (i end : ℕ) (h : i < end) (l : end ≤ length text) where
  char_is : get_or text i 0 ≡ char_at text i
  char_is = get_d_any text i 0 NEWLINE (omega arith)

  pub step_builtin : get_or text i 0 < BUILTIN_END → Stepped classes text i end (i + 1)
  step_builtin b =
      let b' : char_at text i < BUILTIN_END = rw char_is at b in
      record {
        begins = omega arith;
        ends = omega arith;
        classed = λ j k m. let q : j ≡ i = omega arith in rw q (builtin_classed classes text i b');
        stuck = λ q. absurd (omega arith);
      }

  module _ (b : BUILTIN_END ≤ get_or text i 0) (at : ℕ) (f : at ≡ holder classes (get_or text i 0)) where
    pub step_none : records classes ≤ at → Stepped classes text i end i
    step_none n =
        record {
          begins = omega arith;
          ends = omega arith;
          classed = λ j k m. absurd (omega arith);
          stuck = λ q. none_unclassed classes text i (rw char_is at b) (rw (f, char_is) at n);
        }

  -- a record that holds the character, and those behind it
  module _ (g : good_table classes ≡ true) (at : ℕ) (f : at ≡ holder classes (get_or text i 0)) (n : at < records classes) (r : ℕ)
      (s : Past text (record_at classes at).first (record_at classes at).last (i + 1) end r) where
    here : unclassed classes text i ≡ false
    here =
        let e : at ≡ holder classes (char_at text i) = f ∙ rw char_is in
        let m : holder classes (char_at text i) < records classes = rw (← e) n in
        holder_classed classes text g i m

    pub step_held : Stepped classes text i end r
    step_held =
        record {
          begins = omega (arith, s.begins);
          ends = s.ends;
          classed = λ j k m. split i j
              (λ b. held_classed classes text g at n j (s.least j (omega arith) m) (s.most j (omega arith) m))
              (λ b. let q : j ≡ i = omega arith in rw q here);
          stuck = λ q. absurd (omega (arith, s.begins));
        }

module _ (classes text : List ℕ) (from end : ℕ) where
  -- what was passed so far
  pub record Walking (i : ℕ) : Type 0 where
    pub begins : from ≤ i
    pub ends : i ≤ end
    pub classed : (j : ℕ) → from ≤ j → j < i → unclassed classes text j ≡ false

  pub walking_start : from ≤ end → Walking from
  walking_start h = record { begins = omega arith; ends = h; classed = λ j k m. absurd (omega arith) }

  pub walking_stuck : (i next : ℕ) → Walking i → Stepped classes text i end next → next ≡ i → Walked classes text from end i
  walking_stuck i next w s e =
      record { begins = w.begins; ends = w.ends; classed = w.classed; found = λ h. s.stuck e }

  pub walking_more : (i next : ℕ) → Walking i → Stepped classes text i end next → Walking next
  walking_more i next w s =
      record {
        begins = omega (arith, w.begins, s.begins);
        ends = s.ends;
        classed = λ j k m. split j i (λ b. w.classed j k b) (λ b. s.classed j b m);
      }

  pub walking_end : (i : ℕ) → Walking i → end ≤ i → Walked classes text from end i
  walking_end i w h =
      record { begins = w.begins; ends = w.ends; classed = w.classed; found = λ l. absurd (omega arith) }

  -- all at once
  pub walked_builtin : from ≤ end → ((j : ℕ) → from ≤ j → j < end → char_at text j < BUILTIN_END) → Walked classes text from end end
  walked_builtin h b =
      record {
        begins = h;
        ends = omega arith;
        classed = λ j k m. builtin_classed classes text j (b j k m);
        found = λ l. absurd (omega arith);
      }

-- ---- the rest of a text, block by block
module _ (classes text : List ℕ) (from i : ℕ)
    (w : first_from (unclassed classes text) (total text) i ≡ first_from (unclassed classes text) (total text) from) where
  module _ (end bad : ℕ) (s : Walked classes text i end bad) (l : end ≤ length text) where
    pub rest_found : bad < end → bad ≡ first_from (unclassed classes text) (total text) from
    rest_found h =
        sym (first_passed _ (total text) i bad s.begins (omega arith) s.classed
        ∙ first_hit _ (total text) bad (omega arith) (s.found h))
        ∙ w

    pub rest_more : end ≤ bad
        → first_from (unclassed classes text) (total text) end ≡ first_from (unclassed classes text) (total text) from
    rest_more h =
        let e : bad ≡ end = omega (arith, s.ends) in
        sym (first_passed _ (total text) i end (omega (arith, s.begins)) (omega arith) (λ j a b. s.classed j a (omega arith))) ∙ w

  pub rest_ended : length text ≤ i → i ≤ total text → total text ≡ first_from (unclassed classes text) (total text) from
  rest_ended h l =
      split i (total text)
      (λ m. let e : i ≡ length text = omega arith in
      sym (first_miss _ (total text) i m (rw e (newline_classed classes text)) ∙ last (i + 1) (omega arith)) ∙ w)
      (λ m. sym (last i (omega arith)) ∙ w)
    where
      last : (k : ℕ) → k ≡ total text → first_from (unclassed classes text) (total text) k ≡ total text
      last k e = first_end _ (total text) k e ∙ e
