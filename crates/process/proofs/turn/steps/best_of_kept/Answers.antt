use Rattle.std.proofs.Common.{◌<◌, ltb, [], ◌∷◌, ◌++◌, length, sym, ap, ◌∙◌, arith, rules}
use Rattle.std.proofs.lemmas.Iterator.{items_from_drains}
use Rattle.std.proofs.lemmas.Iterator.Consumers.{YieldsList-at}
use Rattle.std.proofs.lemmas.List.{length-map, map-append}
use Rattle.tray.proofs.Room.{put_appends}
use Rattle.tray.specs.Best.{best_of}
use Rattle.tray.specs.Items.{items}
use Rattle.tray.specs.Kinds.{prefers_estimate}
use Rattle.process.proofs.Slots.{few_there, more_to_come, slot_gives, slots_give}
use Rattle.process.proofs.turn.steps.best_of_kept.Goals as goal

pub loop-estimate-preserved : goal.loop-estimate-preserved
loop-estimate-preserved c =
    let ks = c.args.estimates.now in
    let xs = c.loop-estimate.yielded in
    let (so, room) = c.loop-estimate.invariant in
    let gives = YieldsList-at c.into_iter-estimate-iterator.ensures.into_iter_gives
    (slots_give _ _ ks (λ x j b. slot_gives j x.now b.0 b.1) (search rules) (search rules) (search rules) (search rules)) in
    let few : length xs < 9 = omega (arith, more_to_come gives xs _ _ _ c.loop-estimate.yielded_by c.in-Some.ensures.steps, few_there ks) in (
      put_appends (items c.loop-estimate.tray) (items c.put.new.self) c.in-Some.estimate.now _ 9 (omega (arith, ap length so, length-map xs (λ e. e.now)))
          (c.put.ensures.test ∙ ap (ltb (length (items c.loop-estimate.tray))) room) c.put.ensures.list
          ∙ (ap (λ l. l ++ c.in-Some.estimate.now ∷ []) so ∙ sym (map-append (λ e. e.now) xs (c.in-Some.estimate ∷ []))),
      c.put.ensures.room ∙ room,
    )

pub returns : goal.returns
returns c =
    let ks = c.args.estimates.now in
    let gives = YieldsList-at c.into_iter-estimate-iterator.ensures.into_iter_gives
    (slots_give _ _ ks (λ x j b. slot_gives j x.now b.0 b.1) (search rules) (search rules) (search rules) (search rules)) in
    let all = items_from_drains c.loop-estimate.yielded (_, c.loop-estimate.yielded_by, λ _. (_, c.in-None.ensures.steps)) gives in
    c.best_of_tray.ensures.value ∙ ap (best_of prefers_estimate) (c.loop-estimate.invariant.0 ∙ all)
