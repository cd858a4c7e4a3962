use Rattle.mx_flow.proofs.ResponseProofs.{front_of_each_response, all_of_one, makes_response, are_the_responses}
use Rattle.mx_flow.proofs.laws.content_of_responses.Goals as goal

pub returns-clause-front : goal.returns-clause-front
returns-clause-front c = front_of_each_response

pub returns-clause-all : goal.returns-clause-all
returns-clause-all c = all_of_one

pub returns-clause-makes : goal.returns-clause-makes
returns-clause-makes c = makes_response

pub returns-clause-same : goal.returns-clause-same
returns-clause-same c = are_the_responses
