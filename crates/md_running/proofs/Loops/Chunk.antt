-- A chunk under way (`Chunking`): the state is that after i characters, and the first that is refused is still to be looked for from i on.
-- Assumes nothing.
use Rattle.std.specs.Prelude.{Ok, Err, Option, Some, None}
use Prim.Native.Nat.{ℕ, ◌+◌, ◌≤◌, ◌<◌}
use mathlib.Core.Path.{◌≡◌, sym, ap, ◌∙◌}
use mathlib.Core.Bool.{true, false}
use mathlib.Core.List.{List}
use native.Mathlib.Omega.{arith}
use lib.ListN.{length, get_or}
use Rattle.base.specs.Inner.First.{first_from}
use Rattle.base.specs.Limits.{NEWLINE}
use Rattle.base.specs.declared.refusals.Cause.TheVariants.{Unclassed, BadState}
use Rattle.base.proofs.Laws.First.{first_start, first_hit, first_miss, first_end}
use Rattle.classes.specs.declared.Class.{Class}
use Rattle.classes.specs.Lookup.{class_of}
use Rattle.classes.proofs.Laws.Lookup.{class_lawful}
use Rattle.md_meaning.specs.Scan.{class_at}
use Rattle.md_meaning.proofs.Laws.Scan.{get_d_any, is_unclassed, is_classed}
use Rattle.md_running_meaning.specs.declared.Running.{Running}
use Rattle.md_running_meaning.specs.State.{unsound}
use Rattle.md_running_meaning.specs.Feeding.{step, fed_unless}
use Rattle.md_running_meaning.specs.Chunk.{steps_at, halts_at, halt, refused_within}
use Rattle.md_running_meaning.specs.Inner.Chunk.{Chunk}
use Rattle.md_running_meaning.specs.Inner.Step.{Taking}
use Rattle.md_running_meaning.proofs.Laws.State.{sound_of}
use Rattle.md_running_meaning.proofs.Laws.Feeding.{fed_refused, fed_allowed}
use Rattle.md_running_meaning.proofs.Laws.Chunk.{steps_start, steps_more, steps_length, steps_received, halts_unsound, halts_unclassed, halts_not, within_unsound, within_unclassed, within_none}

module _ (s : Running) (text classes pairs : List ℕ) where
  pub record Chunking (t : Running) (i : ℕ) : Type 0 where
    pub below : i ≤ length text
    pub state : t ≡ steps_at s text classes pairs i
    pub running : first_from (halts_at s text classes pairs) (length text) i ≡ halt s text classes pairs

  pub chunking_start : Chunking s 0
  chunking_start =
      record {
        below = omega arith;
        state = sym (steps_start s text classes pairs);
        running = first_start (halts_at s text classes pairs) (length text);
      }

  module _ {t : Running} {i : ℕ} (g : Chunking t i) where
    -- the class of the character at i: no newline stands within the text
    class_here_lem : i < length text → (f : Option Class) → class_of classes (get_or text i 0) ≡ f → class_at classes text i ≡ f
    unfolding class_at
    class_here_lem h f e = ap (class_of classes) (get_d_any text i NEWLINE 0 h) ∙ e

    pub chunking_unsound : i < length text → unsound t ≡ true
        → fed_unless (Err (record { cause = BadState; place = 0 })) s s 0
        ≡ fed_unless (refused_within s text classes pairs) s (steps_at s text classes pairs (length text)) (s.received + length text)
    chunking_unsound h u =
        let v : unsound (steps_at s text classes pairs i) ≡ true = rw g.state at u in
        let e : halt s text classes pairs ≡ i =
        sym g.running ∙ first_hit (halts_at s text classes pairs) (length text) i h (halts_unsound s text classes pairs i v) in
        fed_refused _ s _ _ _ (within_unsound s text classes pairs i h e v)

    module _ (h : i < length text) (u : unsound t ≡ false) where
      sound_here : unsound (steps_at s text classes pairs i) ≡ false
      sound_here = rw g.state at u

      pub chunking_unclassed : class_of classes (get_or text i 0) ≡ None
          → fed_unless (Err (record { cause = Unclassed; place = t.received })) s s 0
          ≡ fed_unless (refused_within s text classes pairs) s (steps_at s text classes pairs (length text)) (s.received + length text)
      chunking_unclassed n =
          let m = is_unclassed classes text i (class_here_lem h None n) in
          let e : halt s text classes pairs ≡ i =
          sym g.running ∙ first_hit (halts_at s text classes pairs) (length text) i h (halts_unclassed s text classes pairs i sound_here m) in
          fed_refused _ s _ _ _ (rw g.state (within_unclassed s text classes pairs i h e sound_here m))

      module _ (c : Class) (n : class_of classes (get_or text i 0) ≡ Some c) where
        pub chunking_taking : Chunk s text classes pairs → Taking t c pairs
        chunking_taking k =
            let a : t.received ≡ s.received + i = rw g.state (steps_received s text classes pairs i) in
            let b : t.length ≡ s.length = rw g.state (steps_length s text classes pairs i) in
            let l = k.left in
            let m = k.short in
            record {
              sound = sound_of t u;
              room = record { left = omega (arith, a, b, l, h); short = omega (arith, b, m) };
              fits = k.tables.fits;
              range = (class_lawful classes k.tables.good _ c n).range;
            }

        pub chunking_more : (v : Running) → v ≡ step pairs t c → Chunking v (i + 1)
        chunking_more v e =
            record {
              below = omega arith;
              state = e ∙ rw g.state (sym (steps_more s text classes pairs i c (class_here_lem h (Some c) n)));
              running =
                  sym (first_miss (halts_at s text classes pairs) (length text) i h
                  (halts_not s text classes pairs i sound_here (is_classed classes text i c (class_here_lem h (Some c) n))))
                  ∙ g.running;
            }

    pub chunking_end : length text ≤ i
        → record { state = t; answer = Ok t.received }
        ≡ fed_unless (refused_within s text classes pairs) s (steps_at s text classes pairs (length text)) (s.received + length text)
    chunking_end l =
        let e : i ≡ length text = omega (arith, l, g.below) in
        let h : halt s text classes pairs ≡ length text = sym g.running ∙ first_end (halts_at s text classes pairs) (length text) i e ∙ e in
        let a : t ≡ steps_at s text classes pairs (length text) = g.state ∙ ap (steps_at s text classes pairs) e in
        rw (a, steps_received s text classes pairs (length text)) (fed_allowed _ s _ _ (within_none s text classes pairs h))
