use Rattle.heap_relations.proofs.Functions.{functions_agree}
use Rattle.heap_relations.proofs.Kept.{joins, made_kept, new_objects, others, objects, same, stay}
use Rattle.heap_relations.proofs.laws.law_objects_agree.Goals as goal

pub returns : goal.returns
returns c = record { objects = objects; same = same; new_objects = new_objects; made = made_kept; functions = functions_agree; stay = stay; joins = joins; others = others }
