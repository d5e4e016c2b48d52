use Rattle.wh_serve.proofs.threads.serve_whole.Goals as goal

pub returns : goal.returns
returns g c = λ history begins. record { rest = c.serve_visits-connections.new.spares.items; visits = c.serve_visits-connections.ensures history begins }
