-- The bare network of a cycle time is valid.
use Rattle.std.proofs.Common.{◌≡◌, ℕ, zero, suc, ◌+◌, ◌-◌, ◌<◌, ◌≤◌, true, List, [], ◌∷◌}
use Rattle.std.proofs.Common.{map, length, sum, get_or, Option, Some, None, IfSome, nat_lt, refl, sym, ap, ◌∙◌, arith, All, subst}
use Rattle.std.specs.List.{list_all}
use Rattle.std.proofs.Math.Nat.{mod-lt, div-lt_iff_lt-mul, mul-lt-mul_of_pos_right}
use Rattle.std.proofs.lemmas.Bool.Decides.{nat_tests}
use Rattle.std.proofs.lemmas.List.{length-map, get_or-map}
use Rattle.std.proofs.lemmas.List.Elements.{All-nil, All-cons, All-map, All-weaker}
use Rattle.std.proofs.lemmas.List.Sums.{get_or-le-sum_by, sum-map, AllPass-from_list_all}
use Rattle.std.proofs.lemmas.List.FromFn.{length-map-range_with_len, get_or-map-range_with_len}
use Rattle.std.proofs.lemmas.Simd.{map-map}
use Rattle.transyt_parts.specs.declared.frame.Frame.{Frame}
use Rattle.transyt_parts.specs.declared.node.Stage.{Stage}
use Rattle.transyt_parts.specs.Parts.{NodeValue, PlanValue}
use Rattle.transyt_parts.specs.Plan.{stage_of, no_stage, plan_fault}
use Rattle.transyt_parts.specs.Made.{bare_node, bare_stage}
use Rattle.transyt_parts.specs.Valid.{IsNode, IsStage, IsPlan}
use Rattle.transyt_parts.proofs.CopyLaws.{same_length}
use Rattle.transyt_net.specs.Parts.{Network, with_signals}
use Rattle.transyt_net.specs.Valid.{IsValid, node_numbers}
use Rattle.transyt_net.proofs.ShapeLaws.{same_numbers}
use Rattle.transyt_equisat.specs.Peaks.{Fits, intergreens}
use Rattle.transyt_equisat.specs.Balance.{change_at, first_more}
use Rattle.transyt_equisat.proofs.FilledLaws.{filled}
use Rattle.transyt_equisat.proofs.PlanFits.{plan_parts}
use Rattle.transyt_equisat.proofs.TimedPlans.{AreTimed, timed_allowed}
use Rattle.transyt_variants.specs.Cycles.{steps_of, has_short_lags, has_short_sizes, may_have, least_length, first_barred}
use Rattle.transyt_variants.specs.Cycles.{scaled, scaled_stage, filled_greens, laid, bare_stages, bare_plan, bare_net}
use Rattle.transyt_variants.specs.Needs.{HasBarePlan, CanHave}
use Rattle.transyt_variants.proofs.ValidLaws.{valid_signals}
use Rattle.transyt_variants.proofs.StartLaws.{map_places, all_places}

-- a step in a cycle of others is one of its steps
pub scaled_below : (before after step : ℕ) → step < before → 0 < after → scaled before after step < after
scaled_below before after step inside some =
    let more = mul-lt-mul_of_pos_right inside some in
    (div-lt_iff_lt-mul (omega arith)).1 (omega (arith, more))

-- the stage at a place, with its change as many steps after the first as the stages before it take
abbrev pub laid_stage : ℕ → List Stage → List ℕ → ℕ → Stage
laid_stage steps ss gs k = record (stage_of ss k) { change = change_at steps ss gs k }

-- stages one after another differ in their changes alone
laid_same : (steps : ℕ) (ss : List Stage) (gs : List ℕ) → map bare_stage (laid steps ss gs) ≡ map bare_stage ss
laid_same steps ss gs = map_places bare_stage (laid_stage steps ss gs) ss no_stage no_stage (λ k inside. refl)

-- so do those of the bare plan
bare_same : (before after : ℕ) (ss : List Stage) → map bare_stage (bare_stages before after ss) ≡ map bare_stage ss
bare_same before after ss =
    laid_same after (map (scaled_stage before after) ss) (filled_greens after ss) ∙ map-map bare_stage (scaled_stage before after) ss

-- nodes with their bare plans differ in their offsets and changes alone
pub plans_same : (before after : ℕ) (ns : List NodeValue)
    → map bare_node (map (bare_plan before after) ns) ≡ map bare_node ns
plans_same before after [] = refl
plans_same before after (n ∷ ns) =
    λ j. record n { offset = 0; stages = bare_same before after n.stages j } ∷ plans_same before after ns j

-- so they have their numbers
pub bare_numbers : (before after : ℕ) (ns made : List NodeValue) → made ≡ map (bare_plan before after) ns
    → node_numbers made ≡ node_numbers ns
bare_numbers before after ns made is =
    ap node_numbers is ∙ same_numbers (map (bare_plan before after) ns) ns (plans_same before after ns)

-- stages one after another are timed by their greens
laid_timed : (steps : ℕ) (ss : List Stage) (gs : List ℕ) → AreTimed steps ss gs (laid steps ss gs)
laid_timed steps ss gs =
    let f : ℕ → Stage = laid_stage steps ss gs in
    record {
      count = length-map-range_with_len f 0 (length ss);
      each = λ k inside. get_or-map-range_with_len f 0 (length ss) k k no_stage inside (omega arith);
    }

-- a change is a step of the cycle
pub change_small : (steps : ℕ) (ss : List Stage) (gs : List ℕ) (k : ℕ) → 0 < steps → (stage_of ss 0).change < steps
    → change_at steps ss gs k < steps
change_small steps ss gs zero some first = first
change_small steps ss gs (suc k) some first =
    mod-lt (change_at steps ss gs k + get_or gs k 0 + (stage_of ss k).intergreen) some

-- the scaled stages have the scaled stage at each place
scaled_at : (before after : ℕ) (ss : List Stage) (k : ℕ) → k < length ss
    → stage_of (map (scaled_stage before after) ss) k ≡ scaled_stage before after (stage_of ss k)
scaled_at before after ss k inside =
    get_or-map (scaled_stage before after) ss k no_stage no_stage inside

-- the greens of the bare plan fill the cycle
pub bare_fits : (before after : ℕ) (ss : List Stage) → 0 < length ss → least_length ss ≤ after
    → Fits after (map (scaled_stage before after) ss) (filled_greens after ss)
bare_fits before after ss some room =
    let scaled_ss : List Stage = map (scaled_stage before after) ss in
    let gs : List ℕ = map (λ (s : Stage). s.least) ss in
    let count = length-map ss (scaled_stage before after) in
    let gaps : intergreens scaled_ss ≡ intergreens ss =
    sym (sum-map (λ (s : Stage). s.intergreen) scaled_ss)
    ∙ ap sum (map-map (λ (s : Stage). s.intergreen) (scaled_stage before after) ss)
    ∙ sum-map (λ (s : Stage). s.intergreen) ss in
    let total : sum gs + intergreens scaled_ss ≡ least_length ss = omega (arith, sum-map (λ (s : Stage). s.least) ss, gaps) in
    let fits = filled after scaled_ss gs (length-map ss (λ (s : Stage). s.least) ∙ sym count) (omega (arith, count))
    (λ k below.
    let inside : k < length ss = omega (arith, count) in
    omega (
      arith,
      get_or-map (λ (s : Stage). s.least) ss k no_stage 0 inside,
      ap (λ (s : Stage). s.least) (scaled_at before after ss k inside),
    ))
    (omega (arith, total)) in
    subst (λ (n : ℕ). Fits after scaled_ss (first_more (after - n) gs)) total fits

-- the first stage keeps its change within the cycle
pub scaled_first : (before after : ℕ) (ss : List Stage) → 0 < length ss → All (IsStage before) ss → 0 < after
    → (stage_of (map (scaled_stage before after) ss) 0).change < after
scaled_first before after ss inside each some =
    subst (λ (s : Stage). s.change < after) (sym (scaled_at before after ss 0 inside))
    (scaled_below before after (stage_of ss 0).change (each 0 no_stage inside).change some)

-- a node with its bare plan keeps to its ranges, and the plan is allowed
bare_is : (before after : ℕ) (n : NodeValue) → HasBarePlan before after n → 0 < after
    → IsNode after (bare_plan before after n) × (plan_fault after (bare_stages before after n.stages) ≡ None)
bare_is before after n has some =
    let ss : List Stage = n.stages in
    let scaled_ss : List Stage = map (scaled_stage before after) ss in
    let gs : List ℕ = filled_greens after ss in
    let count = length-map ss (scaled_stage before after) in
    let zero_in : 0 < length ss = omega (arith, has.two) in
    let first = scaled_first before after ss zero_in has.node.stages some in
    let live : (j : ℕ) → j < length scaled_ss → 0 < (stage_of scaled_ss j).least =
    λ j below.
    let inside : j < length ss = omega (arith, count) in
    omega (arith, ap (λ (s : Stage). s.least) (scaled_at before after ss j inside), (has.node.stages j no_stage inside).least.0) in
    let stages : All (IsStage after) (bare_stages before after ss) =
    all_places (IsStage after) (laid_stage after scaled_ss gs) (length scaled_ss)
    (λ k below.
    let inside : k < length ss = omega (arith, count) in
    let old : IsStage before (stage_of ss k) = has.node.stages k no_stage inside in
    let here = scaled_at before after ss k inside in
    let gap : (stage_of scaled_ss k).intergreen ≡ (stage_of ss k).intergreen = ap (λ (s : Stage). s.intergreen) here in
    let low : (stage_of scaled_ss k).least ≡ (stage_of ss k).least = ap (λ (s : Stage). s.least) here in
    let gaps = get_or-le-sum_by (λ (s : Stage). s.intergreen) ss k no_stage inside in
    let lows = get_or-le-sum_by (λ (s : Stage). s.least) ss k no_stage inside in
    record {
      change = change_small after scaled_ss gs k some first;
      intergreen = omega (arith, gap, low, gaps, lows, old.least.0, has.room);
      least = (omega (arith, low, old.least.0), omega (arith, low, lows, has.room));
    }) in (
      record {
        number = has.node.number;
        offset = scaled_below before after n.offset has.node.offset some;
        stage_count = omega (
          arith,
          same_length bare_stage (bare_stages before after ss) ss (bare_same before after ss),
          has.node.stage_count,
        );
        stages = stages;
      },
      (timed_allowed after scaled_ss gs (laid after scaled_ss gs) (laid_timed after scaled_ss gs)
          (bare_fits before after ss zero_in has.room) (omega (arith, has.two, count)) first live
          (laid_same after scaled_ss gs)).allowed,
    )

-- nodes of which none is barred have room
room_of : (steps : ℕ) (ns : List NodeValue) → first_barred steps ns ≡ None → All (λ n. least_length n.stages ≤ steps) ns
room_of steps [] none = All-nil (λ (n : NodeValue). least_length n.stages ≤ steps)
room_of steps (n ∷ ns) none =
    grind (arith, nat_tests, All-cons (λ (n : NodeValue). least_length n.stages ≤ steps) n ns, room_of steps ns)

-- a climb plan of short sizes is valid in the other cycle
plan_again : (before after : ℕ) (o : Option PlanValue) → IfSome o (IsPlan before) → has_short_sizes after o ≡ true → IfSome o (IsPlan after)
plan_again before after None is short = tt
plan_again before after (Some p) is short =
    let each = AllPass-from_list_all (λ h. nat_lt h after) p.sizes short in
    record {
      budget = is.budget;
      size_count = is.size_count;
      sizes = λ i d below. ((is.sizes i d below).0, grind (arith, nat_tests, each i d below));
    }

-- the parts of the test
may_facts : (net : Network) (steps : ℕ) → may_have steps net ≡ true → (10 ≤ steps) × (steps ≤ 120)
    × (list_all (has_short_lags steps) net.links ≡ true) × (has_short_sizes steps net.plan ≡ true)
may_facts net steps may = grind (arith, nat_tests)

-- each node has a bare plan
have_plans : (net : Network) (cycle : ℕ) → IsValid net → CanHave net cycle
    → All (HasBarePlan net.frame.step_count (steps_of net cycle)) net.nodes
have_plans net cycle valid can =
    let room = room_of (steps_of net cycle) net.nodes can.none in
    λ k d inside. record {
      node = valid.sound.nodes k d inside;
      two = (plan_parts net.frame.step_count (get_or net.nodes k d).stages (valid.planned k d inside)).0;
      room = room k d inside;
    }

-- the bare network is valid
pub bare_valid : (net : Network) (cycle : ℕ) → IsValid net → CanHave net cycle → IsValid (bare_net net cycle)
bare_valid net cycle valid can =
    let before = net.frame.step_count in
    let after = steps_of net cycle in
    let may = may_facts net after can.may in
    let some : 0 < after = omega (arith, may.0) in
    let lags = AllPass-from_list_all (has_short_lags after) net.links may.2 in
    let frame = valid.sound.frame in
    let all = have_plans net cycle valid can in
    valid_signals net (record net.frame { cycle = cycle; step_count = after }) (map (bare_plan before after) net.nodes) valid (record {
      framed = record {
        cycle = (can.low, can.high);
        step_count = (may.0, may.1);
        sweeps = frame.sweeps;
        period = frame.period;
        stop_penalty = frame.stop_penalty;
        dispersion = frame.dispersion;
      };
      same = plans_same before after net.nodes;
      each = All-map (IsNode after) (bare_plan before after) net.nodes
          (All-weaker (HasBarePlan before after) (λ n. IsNode after (bare_plan before after n))
          (λ n has. (bare_is before after n has some).0) net.nodes all);
      planned = All-map (λ n. plan_fault after n.stages ≡ None) (bare_plan before after) net.nodes
          (All-weaker (HasBarePlan before after) (λ n. plan_fault after (bare_stages before after n.stages) ≡ None)
          (λ n has. (bare_is before after n has some).1) net.nodes all);
      lags = λ i d below. grind (arith, nat_tests, lags i d below);
      plan = plan_again before after net.plan valid.sound.plan may.3;
    })

-- the least greens of the stages of a cycle of at most 120 steps are short
pub leasts_short : (steps : ℕ) (ss : List Stage) (es : List ℕ) → steps ≤ 120 → All (IsStage steps) ss
    → es ≡ map (λ (s : Stage). s.least) ss → All (λ e. e ≤ 120) es
leasts_short steps ss es most each are =
    rw are
    (All-map (λ e. e ≤ 120) (λ (s : Stage). s.least) ss
    (All-weaker (IsStage steps) (λ s. s.least ≤ 120) (λ s is. omega (arith, is.least.1)) ss each))

-- no intergreen is above 120
pub scaled_gaps : (before after : ℕ) (ss : List Stage) → before ≤ 120 → All (IsStage before) ss
    → All (λ s. s.intergreen ≤ 120) (map (scaled_stage before after) ss)
scaled_gaps before after ss few each =
    All-map (λ s. s.intergreen ≤ 120) (scaled_stage before after) ss
    (All-weaker (IsStage before) (λ s. s.intergreen ≤ 120) (λ s is. omega (arith, is.intergreen)) ss each)

-- each node has a bare plan, by what was read of the network
pub bare_from : (net : Network) (cycle after : ℕ) (f : Frame) (ns : List NodeValue) → f ≡ net.frame → after ≡ steps_of net cycle
    → ns ≡ net.nodes → IsValid net → CanHave net cycle → All (HasBarePlan f.step_count after) ns
bare_from net cycle after f ns same_frame same_steps same valid can =
    rw (same, same_steps, same_frame) (have_plans net cycle valid can)

-- the network that is made of them is valid
pub bare_made : (net : Network) (cycle after : ℕ) (f g : Frame) (ns made : List NodeValue) → f ≡ net.frame → g ≡ net.frame
    → after ≡ steps_of net cycle → ns ≡ net.nodes → made ≡ map (bare_plan f.step_count after) ns → IsValid net → CanHave net cycle
    → IsValid (with_signals net (record g { cycle = cycle; step_count = after }) made)
bare_made net cycle after f g ns made same_f same_g same_steps same is valid can =
    rw (is, same_g, same_f, same_steps, same) (bare_valid net cycle valid can)
