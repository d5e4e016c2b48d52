use denote.Param.Send.{arg_send}
use denote.Param.Sent.{Sends}
use Rattle.wh_planners.proofs.Crossing.{sharing_send}

pub sends-part-1-1 : Sends Rattle.wh_embedding.proofs.fn.with_boxes.make.Hides.part-1-1
sends-part-1-1 i = arg_send _ denote.Exit.no _ sharing_send
